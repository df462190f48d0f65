use Rattle.std.proofs.Common.{ap, length, refl}
use Rattle.std.proofs.lemmas.Result.{err_from_is_err_and}
use Rattle.dbus_msg.proofs.FieldLaws.{signature_all, signature_kept, values_left}
use Rattle.dbus_msg.proofs.writing.push_signature.Goals as goal

pub returns-in_err-push-2-clause-err : goal.returns-in_err-push-2-clause-err
returns-in_err-push-2-clause-err c =
    let p = err_from_is_err_and c.from_residual-in_err-push-2.result c.from_residual-in_err-push-2.ensures.1 in
    rw p.1 (signature_kept _ (length c.as_slice-place.result.now) c.args.out.now.items _ c.push_code.new.out.items _ _ _ _ c.in_ok-push_code.ensures.ok (ap length c.as_slice-place.ensures.value) c.in_ok-push.ensures.items c.in_ok-push_codes.ensures.ok c.in_err-push-2.ensures.items)

pub returns-clause-ok : goal.returns-clause-ok
returns-clause-ok c =
    signature_all c.args.origin (length c.as_slice-place.result.now) (length c.as_slice-end.result.now) _ c.args.body.now c.args.out.now.items c.push_code.new.out.items _ _ _ (values_left c.args.body.now c.is_empty.result c.is_empty.ensures c.if-is_empty.false) c.requires.origin c.in_ok-push_code.ensures.ok (ap length c.as_slice-place.ensures.value) c.in_ok-push.ensures.items c.in_ok-push_codes.ensures.ok (ap length c.as_slice-end.ensures.value) refl c.in_ok-push-2.ensures.items
