-- The fields are cut where the stamp ends.
use Rattle.std.proofs.Common.{◌∙◌}
use Rattle.groups.proofs.Walks.{to_end}
use Rattle.groups.proofs.Telling.{told_fields, told_next}
use Rattle.groups.specs.Stored.{rule_of}
use Rattle.groups.proofs.reading.fields_of.Goals as goal

pub returns-in_default : goal.returns-in_default
returns-in_default c = told_next _ _ _ (c.in_default.ensures c.args.label.now)

pub returns : goal.returns
returns c =
    let split = c.in-Some.ensures in
    c.finish.ensures ∙ rw (
      to_end c.stamp_span.result c.args.body.now,
      c.stamp_span.ensures.0,
    ) (told_fields c.args.mode (rule_of c.args.rule) c.args.label.now c.args.body.now _ split.0 split.2 (split.3 c.args.label.now))
