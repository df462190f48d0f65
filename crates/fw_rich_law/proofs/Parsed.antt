-- The tokens of a rule's pieces follow the grammar, and are read as its parts.
use Rattle.std.proofs.Common.{◌≡◌, ℕ, Bool, true, false, if◌then◌else◌, List, [], ◌∷◌, ◌++◌, Option, None, Some, Ok, ℤ, codes, refl, ap}
use Rattle.std.specs.Fmt.{signed_decimal}
use Rattle.fw_addr.specs.Names.{level_text}
use Rattle.fw_addr.specs.declared.addr.Addr.{Addr}
use Rattle.fw_addr.specs.declared.limit.Limit.{Limit}
use Rattle.fw_addr.specs.declared.packet.Family.{Family}
use Rattle.fw_addr.specs.declared.packet.Family.TheVariants.{V4, V6}
use Rattle.fw_model.specs.declared.binding.Binding.{Binding}
use Rattle.fw_model.specs.declared.binding.Binding.TheVariants as bindings
use Rattle.fw_model.specs.declared.forward.Forward.{Forward}
use Rattle.fw_model.specs.declared.rich.Act.{Act}
use Rattle.fw_model.specs.declared.rich.Act.TheVariants as acts
use Rattle.fw_model.specs.declared.rich.Action.{Action}
use Rattle.fw_model.specs.declared.rich.Element.{Element}
use Rattle.fw_model.specs.declared.rich.Element.TheVariants as elements
use Rattle.fw_model.specs.declared.rich.Rich.{Rich}
use Rattle.fw_model.specs.declared.rich.RichLog.{RichLog}
use Rattle.fw_model.specs.declared.rich.Side.{Side}
use Rattle.fw_rich.specs.Canonical.{is_warning}
use Rattle.fw_rich.specs.Grammar.{act_of, action, action_of, audit, destination_name, element, element_of, element_words, forward, forward_pairs, forward_round, head, limit, log, no_pairs, ports, rule, side, source_name}
use Rattle.fw_rich.specs.Reading.{Parser, if_there, optional, or_pair, read_on, take_pair, take_word, value}
use Rattle.fw_rich.specs.Refusals.{is_zero}
use Rattle.fw_rich.specs.Tokens.{Token, Written}
use Rattle.fw_rich.specs.declared.parts.ForwardPairs.{ForwardPairs}
use Rattle.fw_rich_law.proofs.Canons.{act_pieces, action_pieces, audit_on, audit_pieces, binding_key, binding_value, dest_on, element_on, element_pieces, family_pieces, forward_pieces, level_pieces, limit_pieces, log_on, log_pieces, not_pieces, prefix_pieces, priority_pieces, rule_pieces, side_pieces, source_on}
use Rattle.fw_rich_law.proofs.Parts as parts
use Rattle.fw_rich_law.proofs.Parts.{side_key}
use Rattle.fw_rich_law.proofs.Pieces.{Piece, no_pair, no_word, none_in, placed, starts}
use Rattle.fw_rich_law.proofs.Pieces.Piece.{Word, Pair}
use Rattle.fw_rich_law.proofs.Starts.{action_on_starts, action_starts, audit_on_starts, audit_starts, dest_on_starts, dest_starts, element_on_starts, element_starts, limit_starts, log_on_starts, log_starts, source_on_starts, source_starts}
use Rattle.fw_valid.specs.Each.{IfThere}
use Rattle.fw_valid.specs.Riches.{IsNoMac}

module _ (at place : List Piece → ℕ) where
  -- a part that isn't there
  absent : {X : Type 0} (parser : Parser X) (word : List ℕ) (rest : List Piece) → take_word word (placed at place rest) ≡ (false, placed at place rest)
      → optional word parser (placed at place rest) ≡ Ok (None, placed at place rest)
  absent parser word rest is = ap (λ (found : Bool × List Token). if_there parser found.0 found.1) is

  -- no pair comes next
  lone : (key : List ℕ) (words : List (List ℕ)) (rest : List Piece) → starts words rest ≡ true → take_pair key (placed at place rest) ≡ (None, placed at place rest)
  lone key words rest is = no_pair at place key words rest is

  pub head_read : (priority : ℤ) (family : Option Family) (words : List (List ℕ)) (rest : List Piece) → starts words rest ≡ true
      → head (placed at place (priority_pieces priority ++ (family_pieces family ++ rest)))
      ≡ Ok (record { family = family; priority = parts.priority_part at place priority (family_pieces family ++ rest) }, placed at place rest)
  unfolding head
  head_read priority family words rest is = by (is_zero priority) family
    where
      by : (zero : Bool) (family : Option Family)
          → head (placed at place ((if zero then [] else Pair (codes "priority") (signed_decimal priority) ∷ []) ++ (family_pieces family ++ rest)))
          ≡ Ok (record { family = family; priority = if zero then None else Some (parts.given at place (codes "priority") (signed_decimal priority) (family_pieces family ++ rest)) }, placed at place rest)
      by true None = rw (lone (codes "family") words rest is, lone (codes "priority") words rest is, lone (codes "family") words rest is) refl
      by true (Some V4) = rw (lone (codes "priority") words rest is) refl
      by true (Some V6) = rw (lone (codes "priority") words rest is) refl
      by false None = rw (lone (codes "family") words rest is) refl
      by false (Some V4) = refl
      by false (Some V6) = refl

  sources : (not : Bool) (what : Binding) (rest : List Piece)
      → side source_name (placed at place ((not_pieces not ++ Pair (binding_key what) (binding_value what) ∷ []) ++ rest))
      ≡ Ok (record { not = not; name = record { key = side_key what; value = parts.given at place (binding_key what) (binding_value what) rest } }, placed at place rest)
  unfolding side source_name
  sources true (bindings.Net net) rest = refl
  sources true (bindings.Mac mac) rest = refl
  sources true (bindings.Set name) rest = refl
  sources false (bindings.Net net) rest = refl
  sources false (bindings.Mac mac) rest = refl
  sources false (bindings.Set name) rest = refl

  -- no hardware address is a destination
  dests : (not : Bool) (what : Binding) (rest : List Piece) → IsNoMac what
      → side destination_name (placed at place ((not_pieces not ++ Pair (binding_key what) (binding_value what) ∷ []) ++ rest))
      ≡ Ok (record { not = not; name = record { key = side_key what; value = parts.given at place (binding_key what) (binding_value what) rest } }, placed at place rest)
  unfolding side destination_name
  dests true (bindings.Net net) rest is = refl
  dests true (bindings.Mac mac) rest is = absurd is
  dests true (bindings.Set name) rest is = refl
  dests false (bindings.Net net) rest is = refl
  dests false (bindings.Mac mac) rest is = absurd is
  dests false (bindings.Set name) rest is = refl

  pub source_read : (source : Option Side) (rest : List Piece) → starts dest_starts rest ≡ true
      → optional (codes "source") (side source_name) (placed at place (side_pieces (codes "source") source ++ rest)) ≡ Ok (parts.source_part at place source rest, placed at place rest)
  source_read None rest is = absent (side source_name) (codes "source") rest (no_word at place (codes "source") dest_starts refl rest is)
  source_read (Some source) rest is = ap (read_on (λ x tokens. Ok (Some x, tokens))) (sources source.not source.what rest)

  pub dest_read : (dest : Option Side) (rest : List Piece) → IfThere (λ (side : Side). IsNoMac side.what) dest → starts element_starts rest ≡ true
      → optional (codes "destination") (side destination_name) (placed at place (side_pieces (codes "destination") dest ++ rest)) ≡ Ok (parts.source_part at place dest rest, placed at place rest)
  dest_read None rest no_mac is = absent (side destination_name) (codes "destination") rest (no_word at place (codes "destination") element_starts refl rest is)
  dest_read (Some dest) rest no_mac is = ap (read_on (λ x tokens. Ok (Some x, tokens))) (dests dest.not dest.what rest no_mac)

  -- a round behind all pairs finds no other
  same_pair : (key : List ℕ) (found : Option Written) (words : List (List ℕ)) (rest : List Piece) → starts words rest ≡ true → or_pair key found (placed at place rest) ≡ Ok (found, placed at place rest)
  same_pair key None words rest is = ap Ok (lone key words rest is)
  same_pair key (Some value) words rest is = refl

  same_round : (found : ForwardPairs) (words : List (List ℕ)) (rest : List Piece) → starts words rest ≡ true → forward_round found (placed at place rest) ≡ Ok (found, placed at place rest)
  unfolding forward_round
  same_round found words rest is =
      rw (same_pair (codes "port") found.port words rest is, same_pair (codes "protocol") found.protocol words rest is, same_pair (codes "to-port") found.to_port words rest is, same_pair (codes "to-addr") found.to_addr words rest is) refl

  all_pairs : Forward → List Piece → ForwardPairs
  all_pairs forward rest =
      let found = parts.forward_parts at place forward rest in
      record { port = Some found.from.port; protocol = Some found.from.protocol; to_port = found.to_port; to_addr = found.to_addr }

  first_round : (forward : Forward) (words : List (List ℕ)) (rest : List Piece) → starts words rest ≡ true
      → forward_round no_pairs (placed at place (forward_pieces forward ++ rest)) ≡ Ok (all_pairs forward rest, placed at place rest)
  unfolding forward_round all_pairs
  first_round forward words rest is = by forward.to_port forward.to_addr
    where
      by : (to_port : Option ℕ) (to_addr : Option Addr) → let whole : Forward = record { port = forward.port; to_port = to_port; to_addr = to_addr } in
          forward_round no_pairs (placed at place (forward_pieces whole ++ rest)) ≡ Ok (all_pairs whole rest, placed at place rest)
      by None None = rw (lone (codes "to-port") words rest is, lone (codes "to-addr") words rest is) refl
      by None (Some addr) = refl
      by (Some port) None = rw (lone (codes "to-addr") words rest is) refl
      by (Some port) (Some addr) = refl

  pairs_read : (forward : Forward) (words : List (List ℕ)) (rest : List Piece) → starts words rest ≡ true
      → forward_pairs (placed at place (forward_pieces forward ++ rest)) ≡ Ok (all_pairs forward rest, placed at place rest)
  unfolding forward_pairs
  pairs_read forward words rest is =
      let same = same_round (all_pairs forward rest) words rest is in
      rw (first_round forward words rest is, same, same, same) refl

  forward_read : (port : Forward) (words : List (List ℕ)) (rest : List Piece) → starts words rest ≡ true
      → forward (at (Word (codes "forward-port") ∷ forward_pieces port ++ rest)) (placed at place (forward_pieces port ++ rest)) ≡ Ok (parts.forward_parts at place port rest, placed at place rest)
  unfolding forward all_pairs
  forward_read port words rest is = rw (pairs_read port words rest is) refl

  pub element_read : (what : Option Element) (rest : List Piece) → starts log_starts rest ≡ true
      → element (placed at place (element_pieces what ++ rest)) ≡ Ok (parts.element_part at place what rest, placed at place rest)
  unfolding element element_of ports
  element_read None rest is = rw (none_in at place element_words log_starts refl rest is) refl
  element_read (Some (elements.Service name)) rest is = refl
  element_read (Some (elements.Port port)) rest is = refl
  element_read (Some (elements.Protocol protocol)) rest is = refl
  element_read (Some (elements.IcmpBlock name)) rest is = refl
  element_read (Some (elements.IcmpType name)) rest is = refl
  element_read (Some elements.Masquerade) rest is = refl
  element_read (Some (elements.SourcePort port)) rest is = refl
  element_read (Some (elements.Forward port)) rest is = rw (forward_read port log_starts rest is) refl

  limit_read : (rate : Option Limit) (words : List (List ℕ)) (rest : List Piece) → take_word (codes "limit") (placed at place rest) ≡ (false, placed at place rest)
      → limit (placed at place (limit_pieces rate ++ rest)) ≡ Ok (parts.limit_part at place rate rest, placed at place rest)
  unfolding limit
  limit_read None words rest is = absent (value (codes "value")) (codes "limit") rest is
  limit_read (Some rate) words rest is = refl

  log_pairs_read : (line : RichLog) (rest : List Piece) → starts audit_starts rest ≡ true
      → log (placed at place (prefix_pieces line.prefix ++ (level_pieces line.level ++ limit_pieces line.limit) ++ rest)) ≡ Ok (parts.log_parts at place line rest, placed at place rest)
  unfolding log
  log_pairs_read line rest is = by line.prefix (is_warning line.level)
    where
      limited : limit (placed at place (limit_pieces line.limit ++ rest)) ≡ Ok (parts.limit_part at place line.limit rest, placed at place rest)
      limited = limit_read line.limit audit_starts rest (no_word at place (codes "limit") audit_starts refl rest is)

      begins : starts (codes "limit" ∷ audit_starts) (limit_pieces line.limit ++ rest) ≡ true
      begins = limit_starts line.limit audit_starts rest is

      no_prefix : take_pair (codes "prefix") (placed at place (limit_pieces line.limit ++ rest)) ≡ (None, placed at place (limit_pieces line.limit ++ rest))
      no_prefix = lone (codes "prefix") (codes "limit" ∷ audit_starts) (limit_pieces line.limit ++ rest) begins

      no_level : take_pair (codes "level") (placed at place (limit_pieces line.limit ++ rest)) ≡ (None, placed at place (limit_pieces line.limit ++ rest))
      no_level = lone (codes "level") (codes "limit" ∷ audit_starts) (limit_pieces line.limit ++ rest) begins

      by : (prefix : List ℕ) (warning : Bool)
          → log (placed at place (prefix_pieces prefix ++ ((if warning then [] else Pair (codes "level") (level_text line.level) ∷ []) ++ limit_pieces line.limit) ++ rest))
          ≡ Ok (
            record {
              prefix = parts.prefix_part at place prefix ((if warning then [] else Pair (codes "level") (level_text line.level) ∷ []) ++ limit_pieces line.limit ++ rest);
              level = if warning then None else Some (parts.given at place (codes "level") (level_text line.level) (limit_pieces line.limit ++ rest));
              limit = parts.limit_part at place line.limit rest;
            },
            placed at place rest,
          )
      by [] true = rw (no_prefix, no_level, no_prefix, limited) refl
      by [] false = rw (no_prefix, limited) refl
      by (byte ∷ prefix) true = rw (no_level, limited) refl
      by (byte ∷ prefix) false = rw limited refl

  pub log_read : (line : Option RichLog) (rest : List Piece) → starts audit_starts rest ≡ true
      → optional (codes "log") log (placed at place (log_pieces line ++ rest)) ≡ Ok (parts.log_part at place line rest, placed at place rest)
  log_read None rest is = absent log (codes "log") rest (no_word at place (codes "log") audit_starts refl rest is)
  log_read (Some line) rest is = ap (read_on (λ x tokens. Ok (Some x, tokens))) (log_pairs_read line rest is)

  pub audit_read : (line : Option (Option Limit)) (rest : List Piece) → starts action_starts rest ≡ true
      → optional (codes "audit") audit (placed at place (audit_pieces line ++ rest)) ≡ Ok (parts.audit_part at place line rest, placed at place rest)
  unfolding audit
  audit_read None rest is = absent audit (codes "audit") rest (no_word at place (codes "audit") action_starts refl rest is)
  audit_read (Some rate) rest is = rw (limit_read rate action_starts rest (no_word at place (codes "limit") action_starts refl rest is)) refl

  limit_end : (rate : Option Limit) → limit (placed at place (limit_pieces rate)) ≡ Ok (parts.limit_part at place rate [], [])
  unfolding limit
  limit_end None = refl
  limit_end (Some rate) = refl

  no_type : (rate : Option Limit) → take_pair (codes "type") (placed at place (limit_pieces rate)) ≡ (None, placed at place (limit_pieces rate))
  no_type None = refl
  no_type (Some rate) = refl

  done_read : (done : Act) (rate : Option Limit) → action (placed at place (act_pieces done ++ limit_pieces rate))
      ≡ Ok (Some (record { act = parts.act_parts at place done (limit_pieces rate); limit = parts.limit_part at place rate [] }), [])
  unfolding action action_of act_of
  done_read acts.Accept rate = rw (limit_end rate) refl
  done_read (acts.Reject None) rate = rw (no_type rate, limit_end rate) refl
  done_read (acts.Reject (Some kind)) rate = rw (limit_end rate) refl
  done_read acts.Drop rate = rw (limit_end rate) refl
  done_read (acts.Mark value mask) rate = rw (limit_end rate) refl

  pub action_read : (done : Option Action) → action (placed at place (action_pieces done)) ≡ Ok (parts.action_part at place done, [])
  unfolding action
  action_read None = refl
  action_read (Some done) = done_read done.act done.limit

  pub rule_read : (what : Rich) → IfThere (λ (side : Side). IsNoMac side.what) what.dest
      → rule (placed at place (Word (codes "rule") ∷ rule_pieces what)) ≡ Ok (parts.parts_of_rule at place what, [])
  unfolding rule
  rule_read what no_mac =
      rw (
        head_read what.priority what.family source_starts (source_on what) (source_on_starts what),
        source_read what.source (dest_on what) (dest_on_starts what),
        dest_read what.dest (element_on what) no_mac (element_on_starts what),
        element_read what.element (log_on what) (log_on_starts what),
        log_read what.log (audit_on what) (audit_on_starts what),
        audit_read what.audit (action_pieces what.action) (action_on_starts what.action),
        action_read what.action,
      ) refl
