use Rattle.std.proofs.lemmas.Result.{err_from_is_err_and}
use Rattle.dbus_wire.proofs.KeepsLaws.{begins_more}
use Rattle.dbus_msg.proofs.FieldLaws.{fields_all}
use Rattle.dbus_msg.proofs.writing.push_fields.Goals as goal

pub returns-in_err-push_signature-clause-err : goal.returns-in_err-push_signature-clause-err
returns-in_err-push_signature-clause-err c =
    let p = err_from_is_err_and c.from_residual-in_err-push_signature.result c.from_residual-in_err-push_signature.ensures.1 in
    rw p.1 (λ front begins. c.in_err-push_signature.ensures.err front
    (begins_more front _ _ _ c.in_ok-push_name-5.ensures.ok
    (begins_more front _ _ _ c.in_ok-push_name-4.ensures.ok
    (begins_more front _ _ _ c.in_ok-push_number.ensures.ok
    (begins_more front _ _ _ c.in_ok-push_name-3.ensures.ok
    (begins_more front _ _ _ c.in_ok-push_name-2.ensures.ok
    (begins_more front _ _ _ c.in_ok-push_name.ensures.ok
    (begins_more front _ _ _ c.in_ok-push_path.ensures.ok begins))))))))

pub returns-in_err-push_number-2-clause-err : goal.returns-in_err-push_number-2-clause-err
returns-in_err-push_number-2-clause-err c =
    let p = err_from_is_err_and c.from_residual-in_err-push_number-2.result c.from_residual-in_err-push_number-2.ensures.1 in
    rw p.1 (λ front begins. c.in_err-push_number-2.ensures.err front
    (begins_more front _ _ _ c.in_ok-push_signature.ensures.ok
    (begins_more front _ _ _ c.in_ok-push_name-5.ensures.ok
    (begins_more front _ _ _ c.in_ok-push_name-4.ensures.ok
    (begins_more front _ _ _ c.in_ok-push_number.ensures.ok
    (begins_more front _ _ _ c.in_ok-push_name-3.ensures.ok
    (begins_more front _ _ _ c.in_ok-push_name-2.ensures.ok
    (begins_more front _ _ _ c.in_ok-push_name.ensures.ok
    (begins_more front _ _ _ c.in_ok-push_path.ensures.ok begins)))))))))

pub returns-clause-ok : goal.returns-clause-ok
returns-clause-ok c =
    fields_all c.args.origin c.args.fields.now c.args.body.now c.args.out.now.items _ _ _ _ _ _ _ _ _ c.requires.origin c.in_ok-push_path.ensures.ok c.in_ok-push_name.ensures.ok c.in_ok-push_name-2.ensures.ok c.in_ok-push_name-3.ensures.ok c.in_ok-push_number.ensures.ok c.in_ok-push_name-4.ensures.ok c.in_ok-push_name-5.ensures.ok c.in_ok-push_signature.ensures.ok c.in_ok-push_number-2.ensures.ok
