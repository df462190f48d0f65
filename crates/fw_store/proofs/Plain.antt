-- No value of the permanent settings has a float, and none nests deeper than five arrays and objects.
use Rattle.std.proofs.Common.{◌≡◌, ℕ, zero, suc, ◌≤◌, max, ℤ, pos, negsuc, Bool, true, false, ◌||◌, List, [], ◌∷◌, map, Ordering, refl, arith, rules}
use Rattle.std.specs.Bool.{⊤}
use Rattle.std.specs.Ordering.{nat_cmp, match_ordering}
use Rattle.std.specs.Cmp.Lexicographic.{slice_cmp}
use Rattle.std.specs.declared.cmp.Ordering.TheVariants.{Less, Equal, Greater}
use Rattle.fw_addr.specs.Protocols.{proto_text}
use Rattle.fw_model.specs.declared.config.Config.{Config}
use Rattle.fw_model.specs.declared.forward.Forward.{Forward}
use Rattle.fw_model.specs.declared.ipset.IpSet.{IpSet}
use Rattle.fw_model.specs.declared.policy.Policy.{Policy}
use Rattle.fw_model.specs.declared.port.Port.{Port}
use Rattle.fw_model.specs.declared.service.Service.{Service}
use Rattle.fw_model.specs.declared.zone.Zone.{Zone}
use Rattle.fw_rich.specs.Canonical.{canon}
use Rattle.fw_store.specs.Objects.{Rows, config_data, config_rows, forward_data, ipset_data, ipset_rows, list_of, object_of, policy_data, policy_rows, port_data, service_data, service_rows, texts_of, with_rows, zone_data, zone_rows}
use Rattle.fw_store.specs.Texts.{entry_text, source_text}
use Rattle.serde_json.specs.Data.{Data, Members, boolean, member, no_members, number, put, string, depth, items_depth, members_depth}
use Rattle.serde_json.specs.Find.{of_integer}
use Rattle.serde_json.specs.View.{items_of}
use Rattle.serde_json.specs.Written.{has_float, items_have_float, members_have_float}

-- a value without floats, of so many levels at most
pub record IsPlain (levels : ℕ) (value : Data) : Type 0 where
  pub whole : has_float value ≡ false
  pub shallow : depth value ≤ levels

abbrev AreMembers : ℕ → Members → Type 0
AreMembers levels no_members = ⊤
AreMembers levels (member key value members) = IsPlain levels value × AreMembers levels members

abbrev AreRows : ℕ → Rows → Type 0
AreRows levels [] = ⊤
AreRows levels (row ∷ rows) = IsPlain levels row.1 × AreRows levels rows

either : (left right : Bool) → left ≡ false → right ≡ false → (left || right) ≡ false
either false false one other = refl
either false true one other = other
either true right one other = one

deepest : (left right levels : ℕ) → left ≤ levels → right ≤ levels → max left right ≤ levels
deepest left right levels one other = omega arith

chosen : (levels : ℕ) (order : Ordering) (one other third : Members) → AreMembers levels one → AreMembers levels other → AreMembers levels third → AreMembers levels (match_ordering order one other third)
chosen levels Less one other third a b c = a
chosen levels Equal one other third a b c = b
chosen levels Greater one other third a b c = c

put_plain : (levels : ℕ) (key : List ℕ) (value : Data) (members : Members) → IsPlain levels value → AreMembers levels members → AreMembers levels (put key value members)
put_plain levels key value no_members one all = (one, tt)
put_plain levels key value (member other there members) one all =
    chosen levels (slice_cmp nat_cmp key other) (member key value (member other there members)) (member other value members) (member other there (put key value members))
    (one, all) (one, all.1) (all.0, put_plain levels key value members one all.1)

rows_plain : (levels : ℕ) (rows : Rows) (members : Members) → AreRows levels rows → AreMembers levels members → AreMembers levels (with_rows rows members)
rows_plain levels [] members all there = there
rows_plain levels (row ∷ rows) members all there = rows_plain levels rows (put row.0 row.1 members) all.1 (put_plain levels row.0 row.1 members all.0 there)

no_float : (levels : ℕ) (members : Members) → AreMembers levels members → members_have_float members ≡ false
no_float levels no_members all = refl
no_float levels (member key value members) all = either (has_float value) (members_have_float members) all.0.whole (no_float levels members all.1)

not_deep : (levels : ℕ) (members : Members) → AreMembers levels members → members_depth members ≤ levels
not_deep levels no_members all = omega arith
not_deep levels (member key value members) all = deepest (depth value) (members_depth members) levels all.0.shallow (not_deep levels members all.1)

object_plain : (levels : ℕ) (rows : Rows) → AreRows levels rows → IsPlain (suc levels) (object_of rows)
object_plain levels rows all =
    let there : AreMembers levels (with_rows rows no_members) = rows_plain levels rows no_members all tt in
    let deep : members_depth (with_rows rows no_members) ≤ levels = not_deep levels (with_rows rows no_members) there in
    record { whole = no_float levels (with_rows rows no_members) there; shallow = omega arith }

items_whole : {T : Type 0} (levels : ℕ) (one : T → Data) → ((item : T) → IsPlain levels (one item)) → (items : List T) → items_have_float (items_of (map one items)) ≡ false
items_whole levels one each [] = refl
items_whole levels one each (item ∷ items) = either (has_float (one item)) (items_have_float (items_of (map one items))) (each item).whole (items_whole levels one each items)

items_shallow : {T : Type 0} (levels : ℕ) (one : T → Data) → ((item : T) → IsPlain levels (one item)) → (items : List T) → items_depth (items_of (map one items)) ≤ levels
items_shallow levels one each [] = omega arith
items_shallow levels one each (item ∷ items) = deepest (depth (one item)) (items_depth (items_of (map one items))) levels (each item).shallow (items_shallow levels one each items)

list_plain : {T : Type 0} (levels : ℕ) (one : T → Data) → ((item : T) → IsPlain levels (one item)) → (items : List T) → IsPlain (suc levels) (list_of one items)
list_plain levels one each items =
    let deep : items_depth (items_of (map one items)) ≤ levels = items_shallow levels one each items in
    record { whole = items_whole levels one each items; shallow = omega arith }

text_plain : (levels : ℕ) (text : List ℕ) → IsPlain levels (string text)
text_plain levels text = record { whole = refl; shallow = omega arith }

truth_plain : (levels : ℕ) (truth : Bool) → IsPlain levels (boolean truth)
truth_plain levels truth = record { whole = refl; shallow = omega arith }

number_plain : (levels : ℕ) (whole : ℤ) → IsPlain levels (number (of_integer whole))
number_plain levels (pos n) = record { whole = refl; shallow = omega arith }
number_plain levels (negsuc n) = record { whole = refl; shallow = omega arith }

-- lists of texts nest once, and lists of these twice
texts_plain : {T : Type 0} (levels : ℕ) (text : T → List ℕ) (items : List T) → IsPlain (suc levels) (texts_of text items)
texts_plain levels text items = list_plain levels (λ item. string (text item)) (λ item. text_plain levels (text item)) items

port_plain : (levels : ℕ) (port : Port) → IsPlain (suc levels) (port_data port)
port_plain levels port = record { whole = refl; shallow = omega arith }

forward_plain : (levels : ℕ) (forward : Forward) → IsPlain (suc levels) (forward_data forward)
forward_plain levels forward = record { whole = refl; shallow = omega arith }

ports_plain : (levels : ℕ) (ports : List Port) → IsPlain (suc (suc levels)) (list_of port_data ports)
ports_plain levels ports = list_plain (suc levels) port_data (port_plain levels) ports

forwards_plain : (levels : ℕ) (forwards : List Forward) → IsPlain (suc (suc levels)) (list_of forward_data forwards)
forwards_plain levels forwards = list_plain (suc levels) forward_data (forward_plain levels) forwards

zone_plain : (zone : Zone) → IsPlain 3 (zone_data zone)
zone_plain zone = object_plain 2 (zone_rows zone)
    (text_plain 2 _, (text_plain 2 _, (text_plain 2 _, (texts_plain 1 _ _, (ports_plain 0 _, (texts_plain 1 _ _, (ports_plain 0 _, (texts_plain 1 _ _, (truth_plain 2 _, (forwards_plain 0 _, (text_plain 2 _, (text_plain 2 _, (truth_plain 2 _, (texts_plain 1 _ _, (texts_plain 1 _ _, (texts_plain 1 _ _, (truth_plain 2 _, tt)))))))))))))))))

policy_plain : (policy : Policy) → IsPlain 3 (policy_data policy)
policy_plain policy = object_plain 2 (policy_rows policy)
    (text_plain 2 _, (text_plain 2 _, (text_plain 2 _, (texts_plain 1 _ _, (ports_plain 0 _, (texts_plain 1 _ _, (ports_plain 0 _, (texts_plain 1 _ _, (truth_plain 2 _, (forwards_plain 0 _, (text_plain 2 _, (text_plain 2 _, (number_plain 2 _, (texts_plain 1 _ _, (texts_plain 1 _ _, (texts_plain 1 _ _, tt))))))))))))))))

service_plain : (service : Service) → IsPlain 3 (service_data service)
service_plain service = object_plain 2 (service_rows service)
    (text_plain 2 _, (texts_plain 1 _ _, (ports_plain 0 _, (texts_plain 1 _ _, (ports_plain 0 _, (text_plain 2 _, (text_plain 2 _, tt)))))))

ipset_plain : (set : IpSet) → IsPlain 3 (ipset_data set)
ipset_plain set = object_plain 2 (ipset_rows set)
    (text_plain 2 _, (text_plain 2 _, (text_plain 2 _, (truth_plain 2 _, (texts_plain 1 _ _, tt)))))

pub config_plain : (config : Config) → IsPlain 5 (config_data config)
unfolding config_data
config_plain config = object_plain 4 (config_rows config)
    (number_plain 4 (pos 1), (text_plain 4 _, (text_plain 4 _, (list_plain 3 zone_data zone_plain _, (list_plain 3 policy_data policy_plain _, (list_plain 3 service_data service_plain _, (list_plain 3 ipset_data ipset_plain _, tt)))))))
