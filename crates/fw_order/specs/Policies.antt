-- The order in which policies act (firewalld.policy(5), `priority`).
use Rattle.std.specs.Prelude.{List, Bool}
use Rattle.std.specs.Cmp.Lexicographic.{slice_cmp}
use Rattle.std.specs.Ordering.{int_cmp, is_lt, nat_cmp, ordering_then}
use Rattle.std.specs.declared.cmp.Ordering.{Ordering}
use Rattle.fw_model.specs.declared.policy.Policy.{Policy}
use Rattle.fw_order.specs.Order.{in_order}

-- Of two policies the one of the lower priority comes first, and of one priority that with the lesser name, in byte order.
abbrev pub policy_order : Policy → Policy → Ordering
policy_order one other = ordering_then (int_cmp one.priority other.priority) (slice_cmp nat_cmp one.name other.name)

abbrev pub comes_before : Policy → Policy → Bool
comes_before one other = is_lt (policy_order one other)

-- policies by their priorities and then by their names, wherever they are listed
abbrev pub by_priority_and_name : List Policy → List Policy
by_priority_and_name policies = in_order comes_before policies
