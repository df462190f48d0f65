-- One entry more.
use Rattle.std.proofs.Common.{◌≡◌, List, [], ◌∷◌, ◌++◌, refl, ap, sym, subst, append_assoc, append-nil}
use Rattle.fw_calls.specs.declared.event.Entry.{Entry}
use Rattle.fw_calls.specs.declared.reply.Reply.{Reply}
use Rattle.fw_calls.specs.declared.signal.Signal.{Signal}
use Rattle.fw_replay.specs.Legal.{IsLegal, Legal, LegalBehind}
use Rattle.fw_replay.specs.Replay.{played, replay, replies_of, signals_of}
use Rattle.fw_settings.specs.declared.settings.Settings.{Settings}

pub replay_behind : (first : Settings) (entries : List Entry) (entry : Entry)
    → replay first (entries ++ entry ∷ []) ≡ (played (replay first entries) entry).settings
unfolding replay
replay_behind first [] entry = refl
replay_behind first (before ∷ others) entry = replay_behind (played first before).settings others entry

pub signals_behind : (first : Settings) (entries : List Entry) (entry : Entry)
    → signals_of first (entries ++ entry ∷ []) ≡ signals_of first entries ++ (played (replay first entries) entry).signals ∷ []
unfolding replay signals_of
signals_behind first [] entry = refl
signals_behind first (before ∷ others) entry =
    ap (λ (told : List (List Signal)). (played first before).signals ∷ told) (signals_behind (played first before).settings others entry)

pub replies_behind : (first : Settings) (entries : List Entry) (entry : Entry)
    → replies_of first (entries ++ entry ∷ []) ≡ replies_of first entries ++ (played (replay first entries) entry).reply ∷ []
unfolding replay replies_of
replies_behind first [] entry = refl
replies_behind first (before ∷ others) entry =
    ap (λ (told : List Reply). (played first before).reply ∷ told) (replies_behind (played first before).settings others entry)

legal_from : (first : Settings) (before entries : List Entry) (entry : Entry)
    → LegalBehind first before entries
    → IsLegal (replay first (before ++ entries)) (before ++ entries) entry
    → LegalBehind first before (entries ++ entry ∷ [])
unfolding LegalBehind
legal_from first before [] entry all is = (subst (λ (those : List Entry). IsLegal (replay first those) those entry) (append-nil before) is, tt)
legal_from first before (next ∷ others) entry all is = (
  all.0,
  legal_from first (before ++ next ∷ []) others entry all.1
      (subst (λ (those : List Entry). IsLegal (replay first those) those entry) (sym (append_assoc before (next ∷ []) others)) is),
)

pub legal_behind : (first : Settings) (entries : List Entry) (entry : Entry)
    → Legal first entries
    → IsLegal (replay first entries) entries entry
    → Legal first (entries ++ entry ∷ [])
legal_behind first entries entry all is = legal_from first [] entries entry all is
