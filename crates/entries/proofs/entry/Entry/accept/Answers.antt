use Rattle.std.proofs.Common.{None, Err, sym, ap, ◌∙◌}
use Rattle.entries.proofs.Accepting.{accepted_by, refused_order, refused_field, refused_value, accepted_listed}
use Rattle.entries.proofs.entry.Entry.accept.Goals as goal
use Rattle.entries.proofs.entry.Entry.accept.Goals.{in-Some+else-not-admits+else-is_astray, in_default}

pub returns-then-tag-least : goal.returns-then-tag-least
returns-then-tag-least c =
    ap Err c.fault_at.ensures ∙ sym (refused_order c.args.n c.args.page c.args.least c.args.self c.if-tag-least.true)

pub returns-then-not-admits : goal.returns-then-not-admits
returns-then-not-admits c =
    ap Err c.fault_at-then-not-admits.ensures
    ∙ sym (refused_field c.args.n c.args.page c.args.least c.args.self _ c.if-tag-least.false c.in-Some.ensures (sym c.if-not-admits.ensures))

pub returns-then-is_astray : goal.returns-then-is_astray
returns-then-is_astray c =
    ap Err c.fault_at-then-is_astray.ensures
    ∙ sym (refused_value c.args.n c.args.page c.args.least c.args.self _ c.if-tag-least.false c.in-Some.ensures (sym c.if-not-admits.ensures) (sym c.if-is_astray.ensures))

pub returns : goal.returns
returns c =
    elim c.match-shape_of.branch [
      | in-Some+else-not-admits+else-is_astray w ↦
          sym (accepted_listed c.args.n c.args.page c.args.least c.args.self _ c.if-tag-least.false w.in-Some.ensures (sym w.if-not-admits.ensures) (sym w.if-is_astray.ensures))
      | in_default w ↦
          sym (accepted_by c.args.n c.args.page c.args.least c.args.self None c.if-tag-least.false (sym w.in_default.is ∙ c.shape_of.ensures))
    ]
