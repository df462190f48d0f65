use Rattle.std.proofs.Common.{◌≡◌, ◌+◌, ◌-◌, length, ap, arith, refl}
use Rattle.std.proofs.lemmas.Result.{err_from_is_err_and}
use Rattle.dbus_wire.proofs.KeepsLaws.{begins_more}
use Rattle.dbus_msg.proofs.PatchLaws.{all_known, all_written, body_short, fields_known, gap_known, values_short}
use Rattle.dbus_msg.proofs.writing.push_message.Goals as goal

pub returns-in_err-push_fields-clause-err : goal.returns-in_err-push_fields-clause-err
returns-in_err-push_fields-clause-err c =
    let p = err_from_is_err_and c.from_residual-in_err-push_fields.result c.from_residual-in_err-push_fields.ensures.1 in
    rw p.1 (λ front begins. c.in_err-push_fields.ensures.err front (begins_more front _ _ _ c.in_ok-push_start.ensures.ok begins))

pub push-requires-clause-short : goal.push-requires-clause-short
push-requires-clause-short c =
    let origin = length c.as_slice-origin.result.now in
    let f = fields_known c.args.message.now origin c.args.out.now.items _ _ (ap length c.as_slice-origin.ensures.value) c.in_ok-push_start.ensures.ok c.in_ok-push_fields.ensures.ok in
    let g = gap_known c.args.message.now origin _ _ f.1 c.in_ok-push_padding.ensures.ok in
    values_short c.args.message.now origin c.args.message.now.body c.push_padding.new.out.items c.requires refl g.1

pub overflow_cast-end : goal.overflow_cast-end
overflow_cast-end c =
    let k = all_known c.args.message.now (length c.as_slice-origin.result.now) c.args.out.now.items _ _ _ _ (record {
      begins = ap length c.as_slice-origin.ensures.value;
      starts = c.in_ok-push_start.ensures.ok;
      fields = c.in_ok-push_fields.ensures.ok;
      gap = c.in_ok-push_padding.ensures.ok;
      body = c.in_ok-push.ensures.ok;
    }) in
    omega (arith, k.body_at, k.gap_at, ap length c.as_slice-end.ensures.value, ap length c.as_slice-body_start.ensures.value, body_short c.args.message.now c.requires)

pub set_u32-requires-2 : goal.set_u32-requires-2
set_u32-requires-2 c =
    let k = all_known c.args.message.now (length c.as_slice-origin.result.now) c.args.out.now.items _ _ _ _ (record {
      begins = ap length c.as_slice-origin.ensures.value;
      starts = c.in_ok-push_start.ensures.ok;
      fields = c.in_ok-push_fields.ensures.ok;
      gap = c.in_ok-push_padding.ensures.ok;
      body = c.in_ok-push.ensures.ok;
    }) in
    omega (arith, k.body_at, c.set_u32.ensures.len)

pub returns-clause-ok : goal.returns-clause-ok
returns-clause-ok c =
    let ends = ap length c.as_slice-end.ensures.value in
    let starts = ap length c.as_slice-body_start.ensures.value in
    let fields = ap length c.as_slice-fields_end.ensures.value in
    all_written c.args.message.now (length c.as_slice-origin.result.now) (length c.as_slice-end.result.now - length c.as_slice-body_start.result.now) (length c.as_slice-fields_end.result.now - length c.as_slice-origin.result.now - 16) c.args.out.now.items _ _ _ _ c.set_u32.new.out.items c.set_u32-2.new.out.items (record {
      begins = ap length c.as_slice-origin.ensures.value;
      starts = c.in_ok-push_start.ensures.ok;
      fields = c.in_ok-push_fields.ensures.ok;
      gap = c.in_ok-push_padding.ensures.ok;
      body = c.in_ok-push.ensures.ok;
    }) (omega (arith, ends, starts)) (omega (arith, fields)) c.set_u32.ensures.bytes c.set_u32-2.ensures.bytes
