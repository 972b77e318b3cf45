use Rattle.std.proofs.Common.{sym, ◌∙◌}
use Rattle.rows.specs.Read.{row_held}
use Rattle.rows.proofs.SeenLaws.{look_fresh, look_marks}
use Rattle.rows.proofs.hold.look_at.Goals as goal
use Rattle.rows.proofs.hold.look_at.Goals.{then-seen-sas, else-seen-sas}

pub returns-then-not-may_share-clause-value : goal.returns-then-not-may_share-clause-value
returns-then-not-may_share-clause-value c =
    elim c.if-seen-sas.branch [
      | then-seen-sas w ↦ cc
      | else-seen-sas w ↦ rw c.if-not-may_share.true
          (look_fresh c.args.seen.now c.args.rows.now c.args.i c.key-sas.result c.key-os.result (row_held c.from_bytes-row.result) c.requires.i_bound c.from_bytes-row.ensures
          c.key-sas.ensures.value c.key-os.ensures.value c.requires.i_value w.if-seen-sas.false (sym w.may_share-is ∙ c.if-not-may_share.true))
    ]

pub returns-then-not-may_share-clause-i_after : goal.returns-then-not-may_share-clause-i_after
returns-then-not-may_share-clause-i_after c =
    look_marks c.args.seen.now c.args.rows.now c.args.i c.key-sas.result c.key-os.result (row_held c.from_bytes-row.result) c.requires.i_bound c.from_bytes-row.ensures
    c.key-sas.ensures.value c.key-os.ensures.value c.requires.i_value c.told-seen c.key-sas.ensures.upper_bound c.key-os.ensures.upper_bound

pub returns-else-not-may_share-clause-i_after : goal.returns-else-not-may_share-clause-i_after
returns-else-not-may_share-clause-i_after c =
    look_marks c.args.seen.now c.args.rows.now c.args.i c.key-sas.result c.key-os.result (row_held c.from_bytes-row.result) c.requires.i_bound c.from_bytes-row.ensures
    c.key-sas.ensures.value c.key-os.ensures.value c.requires.i_value c.told-seen c.key-sas.ensures.upper_bound c.key-os.ensures.upper_bound
