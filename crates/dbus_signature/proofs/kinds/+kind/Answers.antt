use Rattle.std.proofs.Common.{sym}
use Rattle.std.proofs.lemmas.Result.{err_from_is_err_and}
use Rattle.dbus_signature.specs.Cursors.{place}
use Rattle.dbus_signature.specs.Signatures.{kind_at}
use Rattle.dbus_signature.proofs.KindLaws.{opens_end}
use Rattle.dbus_signature.proofs.Loops.{goes_on, closes, ends}
use Rattle.dbus_signature.proofs.kinds.+kind.Goals as goal

pub members_at-returns-in_err-member-clause-exact :
    goal.members_at-returns-in_err-member-clause-exact
members_at-returns-in_err-member-clause-exact t c =
    let p = err_from_is_err_and c.from_residual.result c.from_residual.ensures.1 in
    rw (p.1, p.2) (ends (kind_at c.args.arrays c.args.structs) c.in_err-member.field-0.0 c.loop-members.members c.loop-members.next.at c.loop-members.next.rest.now _ _ (opens_end c.args.arrays c.args.structs c.loop-members.next.at) c.in_err-member.ensures.exact c.loop-members.invariant)

pub members_at-returns-in-Some-clause-exact : goal.members_at-returns-in-Some-clause-exact
members_at-returns-in-Some-clause-exact t c =
    rw c.in_ok-push.ensures.ok (closes (kind_at c.args.arrays c.args.structs) c.loop-members.members c.loop-members.next.at c.loop-members.next.rest.now c.in_ok-member.member c.in_ok-member.after.at c.in_ok-member.after.rest.now (place c.in-Some.end) _ _ c.in_ok-member.ensures.exact c.in_ok-member.ensures.shorter (sym c.in-Some.ensures.exact) c.loop-members.invariant)

pub members_at-loop-members-preserved : goal.members_at-loop-members-preserved
members_at-loop-members-preserved t c =
    rw c.in_ok-push.ensures.ok (goes_on (kind_at c.args.arrays c.args.structs) c.loop-members.members c.loop-members.next.at c.loop-members.next.rest.now c.in_ok-member.member c.in_ok-member.after.at c.in_ok-member.after.rest.now _ _ c.in_ok-member.ensures.exact c.in_ok-member.ensures.shorter (sym c.in_default.ensures.exact) c.loop-members.invariant)
