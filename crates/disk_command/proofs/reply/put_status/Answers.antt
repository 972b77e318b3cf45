use Rattle.std.proofs.Common.{◌≡◌, ◌∙◌, ap, drop, replicate, ne_eqb}
use Rattle.stp.specs.Body.{fis}
use Rattle.disk.specs.Disk.{Answer, byte_twelve}
use Rattle.disk.specs.Said.{answer_said}
use Rattle.disk_command.proofs.MadeLaws.{status_left}
use Rattle.disk_command.proofs.reply.put_status.Goals as goal
use Rattle.disk_command.proofs.reply.put_status.Goals.{in-Ok, in-Err, then-asked-eq-CHECK_POWER_MODE, else-asked-eq-CHECK_POWER_MODE}

pub returns : goal.returns
unfolding byte_twelve
returns c =
    let s = c.match-answer.status in
    let a : Answer = record { status = s.0; error = s.1; moved = s.2 } in
    let said : a ≡ answer_said c.args.answer =
    elim c.match-answer.branch [ in-Ok w ↦ rw (w.in-Ok.is, w.status-is) | in-Err w ↦ rw (w.in-Err.is, w.status-is, w.from.ensures) ] in
    let twelve : c.if-asked-eq-CHECK_POWER_MODE.twelve ≡ byte_twelve c.args.asked.command (fis c.args.body.now 12) =
    elim c.if-asked-eq-CHECK_POWER_MODE.branch [
      | then-asked-eq-CHECK_POWER_MODE w ↦ rw (w.twelve-is, w.if-asked-eq-CHECK_POWER_MODE.true)
      | else-asked-eq-CHECK_POWER_MODE w ↦ rw (w.twelve-is, ne_eqb c.args.asked.command 0xe5 w.if-asked-eq-CHECK_POWER_MODE.false)
    ] in
    let zeros : c.fill.new.self ≡ replicate 92 0 = c.fill.ensures.after (λ y e. e) ∙ ap (λ n. replicate n 0) c.split_at_mut-out.ensures.front_len in
    let back : c.split_at_mut-out.result.1.now ≡ drop 92 (drop 44 c.args.body.now) =
    c.split_at_mut-out.ensures.back ∙ ap (drop 92) c.split_at_mut-fixed.ensures.back in
    status_left c.args.body.now _ _ _ _ _ _ c.args.asked a _ c.requires c.split_at_mut-fixed.ensures.front back zeros c.copy_from_slice.ensures.after
    (c.copy_from_slice-2.ensures.after ∙ c.to_le_bytes.ensures) twelve said
