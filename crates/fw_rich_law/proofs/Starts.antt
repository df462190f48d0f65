-- The words that the parts of a rule begin with, and what comes next behind each part.
use Rattle.std.proofs.Common.{◌≡◌, ℕ, Bool, true, false, ◌||◌, List, [], ◌∷◌, ◌++◌, Option, None, Some, codes, refl, bytes_eq}
use Rattle.std.specs.List.{list_any}
use Rattle.fw_model.specs.declared.rich.Act.{Act}
use Rattle.fw_model.specs.declared.rich.Act.TheVariants as acts
use Rattle.fw_model.specs.declared.rich.Action.{Action}
use Rattle.fw_model.specs.declared.rich.Element.{Element}
use Rattle.fw_model.specs.declared.rich.Element.TheVariants as elements
use Rattle.fw_model.specs.declared.rich.Rich.{Rich}
use Rattle.fw_model.specs.declared.rich.RichLog.{RichLog}
use Rattle.fw_model.specs.declared.rich.Side.{Side}
use Rattle.fw_addr.specs.declared.limit.Limit.{Limit}
use Rattle.fw_rich_law.proofs.Canons.{act_pieces, action_pieces, audit_on, audit_pieces, dest_on, element_on, element_pieces, limit_pieces, log_on, log_pieces, side_pieces, source_on}
use Rattle.fw_rich_law.proofs.Pieces.{Piece, starts}
use Rattle.fw_rich_law.proofs.Pieces.Piece.{Word, Pair}

abbrev pub action_starts : List (List ℕ)
action_starts = codes "accept" ∷ codes "reject" ∷ codes "drop" ∷ codes "mark" ∷ []

abbrev pub audit_starts : List (List ℕ)
audit_starts = codes "audit" ∷ action_starts

abbrev pub log_starts : List (List ℕ)
log_starts = codes "log" ∷ audit_starts

abbrev pub element_starts : List (List ℕ)
element_starts =
    codes "service" ∷ codes "port" ∷ codes "protocol" ∷ codes "icmp-block" ∷ codes "icmp-type" ∷ codes "masquerade"
    ∷ codes "source-port" ∷ codes "forward-port" ∷ log_starts

abbrev pub dest_starts : List (List ℕ)
dest_starts = codes "destination" ∷ element_starts

abbrev pub source_starts : List (List ℕ)
source_starts = codes "source" ∷ dest_starts

or_later : (first later : Bool) → later ≡ true → (first || later) ≡ true
or_later true later is = refl
or_later false later is = is

-- more words
pub one_more : (word : List ℕ) (words : List (List ℕ)) (pieces : List Piece) → starts words pieces ≡ true → starts (word ∷ words) pieces ≡ true
one_more word words [] is = refl
one_more word words (Word first ∷ pieces) is = or_later (bytes_eq first word) (list_any (bytes_eq first) words) is
one_more word words (Pair key value ∷ pieces) is = is

-- what a limit may stand before
pub limit_starts : (limit : Option Limit) (words : List (List ℕ)) (rest : List Piece) → starts words rest ≡ true → starts (codes "limit" ∷ words) (limit_pieces limit ++ rest) ≡ true
limit_starts None words rest is = one_more (codes "limit") words rest is
limit_starts (Some limit) words rest is = refl

pub action_on_starts : (action : Option Action) → starts action_starts (action_pieces action) ≡ true
action_on_starts None = refl
action_on_starts (Some action) = by action.act
  where
    by : (act : Act) → starts action_starts (act_pieces act ++ limit_pieces action.limit) ≡ true
    by acts.Accept = refl
    by (acts.Reject None) = refl
    by (acts.Reject (Some kind)) = refl
    by acts.Drop = refl
    by (acts.Mark value mask) = refl

pub audit_on_starts : (rule : Rich) → starts audit_starts (audit_on rule) ≡ true
audit_on_starts rule = by rule.audit
  where
    by : (audit : Option (Option Limit)) → starts audit_starts (audit_pieces audit ++ action_pieces rule.action) ≡ true
    by None = one_more (codes "audit") action_starts (action_pieces rule.action) (action_on_starts rule.action)
    by (Some limit) = refl

pub log_on_starts : (rule : Rich) → starts log_starts (log_on rule) ≡ true
log_on_starts rule = by rule.log
  where
    by : (log : Option RichLog) → starts log_starts (log_pieces log ++ audit_on rule) ≡ true
    by None = one_more (codes "log") audit_starts (audit_on rule) (audit_on_starts rule)
    by (Some log) = refl

pub element_on_starts : (rule : Rich) → starts element_starts (element_on rule) ≡ true
element_on_starts rule = by rule.element
  where
    more : (words : List (List ℕ)) (pieces : List Piece) → starts words pieces ≡ true → (front : List (List ℕ)) → starts (front ++ words) pieces ≡ true
    more words pieces is [] = is
    more words pieces is (word ∷ front) = one_more word (front ++ words) pieces (more words pieces is front)

    by : (element : Option Element) → starts element_starts (element_pieces element ++ log_on rule) ≡ true
    by None = more log_starts (log_on rule) (log_on_starts rule) (codes "service" ∷ codes "port" ∷ codes "protocol" ∷ codes "icmp-block" ∷ codes "icmp-type" ∷ codes "masquerade" ∷ codes "source-port" ∷ codes "forward-port" ∷ [])
    by (Some (elements.Service name)) = refl
    by (Some (elements.Port port)) = refl
    by (Some (elements.Protocol protocol)) = refl
    by (Some (elements.IcmpBlock name)) = refl
    by (Some (elements.IcmpType name)) = refl
    by (Some elements.Masquerade) = refl
    by (Some (elements.SourcePort port)) = refl
    by (Some (elements.Forward forward)) = refl

pub dest_on_starts : (rule : Rich) → starts dest_starts (dest_on rule) ≡ true
dest_on_starts rule = by rule.dest
  where
    by : (side : Option Side) → starts dest_starts (side_pieces (codes "destination") side ++ element_on rule) ≡ true
    by None = one_more (codes "destination") element_starts (element_on rule) (element_on_starts rule)
    by (Some side) = refl

pub source_on_starts : (rule : Rich) → starts source_starts (source_on rule) ≡ true
source_on_starts rule = by rule.source
  where
    by : (side : Option Side) → starts source_starts (side_pieces (codes "source") side ++ dest_on rule) ≡ true
    by None = one_more (codes "source") dest_starts (dest_on rule) (dest_on_starts rule)
    by (Some side) = refl
