-- The next member is the first of those that are left.
use Rattle.std.proofs.Common.{◌≡◌, ℕ, List, ◌++◌, ◌∷◌, [], Some, String, Global, string_bytes, ap, sym, ◌∙◌}
use Rattle.fw_calls.specs.declared.dict.DictField.{DictField}
use Rattle.fw_dicts.specs.Keys.{shape_of}
use Rattle.fw_event_line.specs.Dicts.{field_of, fields_in}
use Rattle.fw_event_line.proofs.Fields.{one_more}
use Rattle.fw_text.specs.Steps.{◌>>=◌}
use Rattle.serde_json.specs.View.{members_view, view}
use Rattle.serde_json.specs.declared.value.Value.{Value}
use Rattle.fw_event_line.proofs.dict.fields_in.Goals as goal

pub loop-key-preserved : goal.loop-key-preserved
loop-key-preserved c =
    let key : List ℕ = string_bytes c.in-Some.key.now in
    let said = c.in_ok-field.ensures in
    let there = c.in-Some-2.is in
    let shape = c.shape_of.ensures in
    let name = c.as_str.ensures.value in
    let again = c.as_str-in-loop-key.ensures.value in
    let copied = c.in_ok-of.ensures in
    let read : Some c.in-Some-2.field ≡ field_of (shape_of c.args.owner key) (view c.in-Some.value.now) = cc in
    let spelled : c.in_ok-of.field-0 ≡ key = cc in
    let put : c.push.new.self ≡ c.loop-key.fields ++ (key, c.in-Some-2.field) ∷ [] =
    c.in_ok-push.ensures.ok ∙ ap (λ (text : List ℕ). c.loop-key.fields ++ (text, c.in-Some-2.field) ∷ []) spelled in
    ap (λ (fields : List (List ℕ × DictField)). fields_in c.args.owner (members_view c.next.new.self) >>= (λ rest. Some (fields ++ rest))) put
    ∙ one_more c.args.owner key (view c.in-Some.value.now) (members_view c.next.new.self) c.loop-key.fields c.in-Some-2.field read
    ∙ ap (λ (left : List (String Global × Value)). fields_in c.args.owner (members_view left) >>= (λ rest. Some (c.loop-key.fields ++ rest))) (sym c.in-Some.ensures.steps)
    ∙ c.loop-key.invariant
