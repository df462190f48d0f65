-- What follows the word `call` and the client's number: a member by the script name of its interface and its own, and its arguments
-- (firewalld.dbus(5); the spelling is this project's own). Of an object of the permanent settings its number comes first.
use Rattle.std.specs.Prelude.{ℕ, ◌-◌, ◌^◌, codes, List, [], ◌∷◌, Option, None, Some}
use Rattle.std.specs.Option.{option_map, option_or}
use Rattle.fw_calls.specs.Interfaces.{script_name}
use Rattle.fw_calls.specs.Making.{call_of}
use Rattle.fw_calls.specs.Table.{rows}
use Rattle.fw_calls.specs.declared.argument.Argument.{Argument}
use Rattle.fw_calls.specs.declared.argument.Argument.TheVariants as argument
use Rattle.fw_calls.specs.declared.interface.Interface.{Interface}
use Rattle.fw_calls.specs.declared.interface.Interface.TheVariants as interface
use Rattle.fw_calls.specs.declared.member.ConfigMember.{ConfigMember}
use Rattle.fw_calls.specs.declared.member.ConfigMember.TheVariants as config
use Rattle.fw_calls.specs.declared.member.Member.{Member}
use Rattle.fw_calls.specs.declared.member.Member.TheVariants as member
use Rattle.fw_calls.specs.declared.shape.Row.{Row}
use Rattle.fw_dicts.specs.declared.shape.Owner.{Owner}
use Rattle.fw_dicts.specs.declared.shape.Owner.TheVariants as owner
use Rattle.fw_event_line.specs.Arguments.{arguments_in, behind}
use Rattle.fw_event_line.specs.declared.asked.Asked.{Asked}
use Rattle.fw_event_line.specs.declared.asked.Asked.TheVariants as asked
use Rattle.fw_text.specs.Names.{named}
use Rattle.fw_text.specs.Number.{number_to}
use Rattle.fw_text.specs.Steps.{◌>>=◌}
use Rattle.fw_words.specs.Keys.{after_key}
use Rattle.fw_words.specs.Reading.{Read, next}

-- the row of a member whose name has its interface's in front
unfoldable pub row_in : Interface → (name : List ℕ) → Option Row
row_in interface name = do
  behind ← after_key (script_name interface) name
  member ← after_key (codes ".") behind
  named (rows interface) member

unfoldable pub row_named : (name : List ℕ) → Option Row
row_named name =
    option_or (row_in interface.Zone name) (option_or (row_in interface.Root name) (option_or (row_in interface.Policy name)
    (option_or (row_in interface.Ipset name) (option_or (row_in interface.Config name)
    (option_or (row_in interface.ConfigZone name) (row_in interface.ConfigPolicy name))))))

-- whose settings a dict says that a member takes
abbrev pub owner_in_config : ConfigMember → Owner
owner_in_config config.ZoneNames = owner.Zone
owner_in_config config.PolicyNames = owner.Policy
owner_in_config config.ZoneByName = owner.Zone
owner_in_config config.PolicyByName = owner.Policy
owner_in_config config.AddZone = owner.Zone
owner_in_config config.AddPolicy = owner.Policy

unfoldable pub owner_of : Member → Owner
owner_of (member.Zone _) = owner.Zone
owner_of (member.Policy _) = owner.Policy
owner_of (member.Ipset _) = owner.Zone
owner_of (member.Root _) = owner.Zone
owner_of (member.Config config) = owner_in_config config
owner_of (member.ConfigZone _) = owner.Zone
owner_of (member.ConfigPolicy _) = owner.Policy

-- the number of an object, within 64 bits
abbrev pub object_number : List (List ℕ) → Option (Read (List Argument))
object_number words = do
  word ← next words
  number ← number_to (2 ^ 64 - 1) word.0
  Some (argument.Number number ∷ [], word.1)

-- what comes before the arguments: the number of an object where the member is of one
unfoldable pub numbered : Member → List (List ℕ) → Option (Read (List Argument))
numbered (member.Zone _) words = Some ([], words)
numbered (member.Policy _) words = Some ([], words)
numbered (member.Ipset _) words = Some ([], words)
numbered (member.Root _) words = Some ([], words)
numbered (member.Config _) words = Some ([], words)
numbered (member.ConfigZone _) words = object_number words
numbered (member.ConfigPolicy _) words = object_number words

-- the call that they make, or that they aren't of the member's types
abbrev pub made : Row → Option (List Argument) → Option Asked
made row None = Some (asked.Unfit row.arguments)
made row (Some arguments) = option_map asked.Call (call_of row.member arguments)

unfoldable pub asked_by : Row → List (List ℕ) → Option Asked
asked_by row words = do
  front ← numbered row.member words
  arguments ← behind front.0 (arguments_in (owner_of row.member) row.arguments front.1)
  made row arguments

-- a member and its arguments
unfoldable pub call_in : List (List ℕ) → Option Asked
call_in words = do
  name ← next words
  row ← row_named name.0
  asked_by row name.1
