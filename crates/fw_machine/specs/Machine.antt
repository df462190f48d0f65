-- What an event is answered, which signals it gives and what it makes of the settings (firewalld.dbus(5)). Sessions, the time and links
-- are this project's own.
use Rattle.std.specs.Prelude.{◌≡◌, ℕ, [], Bool, true, false, IsOk, Result}
use Rattle.fw_act.specs.Acts.{Answered, replied}
use Rattle.fw_calls.specs.declared.call.Call.{Call}
use Rattle.fw_calls.specs.declared.call.Call.TheVariants as call
use Rattle.fw_calls.specs.declared.event.Event.{Event}
use Rattle.fw_calls.specs.declared.event.Event.TheVariants as event
use Rattle.fw_calls.specs.declared.reply.Refusal.{Refusal}
use Rattle.fw_calls.specs.declared.reply.Reply.TheVariants as reply
use Rattle.fw_machine.specs.Configs.{config_asks, config_called}
use Rattle.fw_machine.specs.Objects.{object_asks, policy_object_called, zone_object_called}
use Rattle.fw_machine.specs.Policies.{policy_asks, policy_called}
use Rattle.fw_machine.specs.Roots.{root_asks, root_called, root_takes_none}
use Rattle.fw_machine.specs.Zones.{zone_asks, zone_called, zone_takes_none}
use Rattle.fw_ipset_members.specs.Members.{asks as ipset_asks, ipset_member}
use Rattle.fw_proposals.specs.Proposals.{or_refused}
use Rattle.fw_settings.specs.declared.proposal.Proposal.{Proposal}
use Rattle.fw_settings.specs.declared.settings.Settings.{Settings}
use Rattle.fw_time_links.specs.Linking.{linked}
use Rattle.fw_time_links.specs.Ticking.{ticked}

-- a call, by its interface
unfoldable pub called : Settings → Call → Result (Answered Settings) Refusal
called settings (call.Zone zone) = zone_called settings zone
called settings (call.Policy policy) = policy_called settings policy
called settings (call.Ipset ipset) = ipset_member settings ipset
called settings (call.Root root) = root_called settings root
called settings (call.Config config) = config_called settings config
called settings (call.ConfigZone number object) = zone_object_called settings number object
called settings (call.ConfigPolicy number object) = policy_object_called settings number object

-- whether it only asks
unfoldable pub asks : Call → Bool
asks (call.Zone zone) = zone_asks zone
asks (call.Policy policy) = policy_asks policy
asks (call.Ipset ipset) = ipset_asks ipset
asks (call.Root root) = root_asks root
asks (call.Config config) = config_asks config
asks (call.ConfigZone number object) = object_asks object
asks (call.ConfigPolicy number object) = object_asks object

-- whether it is a query that takes no memory
unfoldable pub takes_none : Call → Bool
takes_none (call.Zone zone) = zone_takes_none zone
takes_none (call.Policy _) = false
takes_none (call.Ipset _) = false
takes_none (call.Root root) = root_takes_none root
takes_none (call.Config _) = false
takes_none (call.ConfigZone _ _) = false
takes_none (call.ConfigPolicy _ _) = false

-- what an event does
unfoldable pub step : Settings → Event → Answered Settings
step settings event.Open = replied settings reply.Opened
step settings (event.Call session call) = or_refused settings (called settings call)
step settings (event.Tick session now) = ticked settings now
step settings (event.Link session up name) = linked settings up name
step settings (event.Shut session) = replied settings reply.Shut

-- An event is the beginning or the end of a session, or such a query that isn't refused: it takes no memory.
pub data IsFree (settings : Settings) : Event → Type 0 where
  opens : IsFree settings event.Open
  asks_flag : (session : ℕ) (asked : Call) → takes_none asked ≡ true → IsOk (called settings asked) → IsFree settings (event.Call session asked)
  shuts : (session : ℕ) → IsFree settings (event.Shut session)

-- Nobody is told of it, and nothing is to be saved or committed.
pub record IsQuiet (proposal : Proposal) : Type 0 where
  pub signals : proposal.signals ≡ []
  pub save : proposal.needs_save ≡ false
  pub commit : proposal.needs_commit ≡ false
