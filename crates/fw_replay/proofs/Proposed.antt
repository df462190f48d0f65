-- What is done of a proposal.
use Rattle.std.proofs.Common.{◌≡◌, List, [], refl, ap, ◌∙◌}
use Rattle.fw_act.specs.Acts.{Answered}
use Rattle.fw_calls.specs.declared.applied.Applied.{Applied}
use Rattle.fw_calls.specs.declared.applied.Applied.TheVariants as applied
use Rattle.fw_calls.specs.declared.reply.Reply.{Reply}
use Rattle.fw_calls.specs.declared.signal.Signal.{Signal}
use Rattle.fw_proposals.specs.Proposals.{Proposes}
use Rattle.fw_replay.specs.Replay.{committed_as, settled_as}
use Rattle.fw_settings.specs.Settling.{Settled, answered, committed, kept_alone, next_settings, refused_commit, settled}
use Rattle.fw_settings.specs.declared.proposal.Proposal.{Proposal}
use Rattle.fw_settings.specs.declared.settings.Settings.{Settings}

abbrev the_settled : Reply → List Signal → Settings → Settled
the_settled said told after = record { reply = said; signals = told; settings = after }

applied_is : (settings : Settings) (done : Answered Settings) (proposal : Proposal) (commit : Applied)
    → Proposes settings done proposal
    → the_settled (answered proposal.reply commit) proposal.signals (next_settings settings proposal)
    ≡ the_settled (answered done.reply commit) done.signals done.after
applied_is settings done proposal commit is =
    ap (λ (said : Reply). record { reply = answered said commit; signals = proposal.signals; settings = next_settings settings proposal }) is.reply
    ∙ ap (λ (told : List Signal). record { reply = answered done.reply commit; signals = told; settings = next_settings settings proposal }) is.signals
    ∙ ap (λ (after : Settings). record { reply = answered done.reply commit; signals = done.signals; settings = after }) is.next

committed_is : (settings : Settings) (done : Answered Settings) (proposal : Proposal) (commit : Applied)
    → Proposes settings done proposal → committed settings proposal commit ≡ committed_as settings done commit
committed_is settings done proposal applied.Failed is =
    ap (λ (said : Reply). record { reply = refused_commit said; signals = []; settings = kept_alone settings (next_settings settings proposal) }) is.reply
    ∙ ap (λ (after : Settings). record { reply = refused_commit done.reply; signals = []; settings = kept_alone settings after }) is.next
committed_is settings done proposal applied.Skipped is = applied_is settings done proposal applied.Skipped is
committed_is settings done proposal applied.Done is = applied_is settings done proposal applied.Done is

pub settled_is : (settings : Settings) (done : Answered Settings) (proposal : Proposal) (save commit : Applied)
    → Proposes settings done proposal → settled settings proposal save commit ≡ settled_as settings done save commit
unfolding settled_as
settled_is settings done proposal applied.Failed commit is = refl
settled_is settings done proposal applied.Skipped commit is = committed_is settings done proposal commit is
settled_is settings done proposal applied.Done commit is = committed_is settings done proposal commit is
