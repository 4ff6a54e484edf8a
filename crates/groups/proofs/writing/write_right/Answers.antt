-- There is room for all, or nothing is stored.
use Rattle.std.proofs.Common.{rules, length, arith}
use Rattle.groups.proofs.Laying.{all_short, body_size, laid_marked, laid_there, wire_size, write_done, write_tight, wrote_laid, wrote_nothing}
use Rattle.groups.specs.Groups.{group_of}
use Rattle.groups.specs.Stored.{rule_of}
use Rattle.groups.proofs.writing.write_right.Goals as goal

pub overflow_add-size : goal.overflow_add-size
overflow_add-size c =
    let s = all_short c.args.mode (rule_of c.args.rule) c.args.group.label.now c.args.group.stamp.now c.args.group.«data».now c.requires.0
    c.requires.1 in
    omega (arith, s.short_label, s.short_data)

pub overflow_add-size-2 : goal.overflow_add-size-2
overflow_add-size-2 c =
    let s = all_short c.args.mode (rule_of c.args.rule) c.args.group.label.now c.args.group.stamp.now c.args.group.«data».now c.requires.0
    c.requires.1 in
    omega (arith, s.short_label, s.short_data, c.stamp_span-span.ensures.1)

pub overflow_add-size-3 : goal.overflow_add-size-3
overflow_add-size-3 c =
    let s = all_short c.args.mode (rule_of c.args.rule) c.args.group.label.now c.args.group.stamp.now c.args.group.«data».now c.requires.0
    c.requires.1 in
    omega (arith, s.short_label, s.short_data, c.stamp_span-span.ensures.1)

pub overflow_add-size-4 : goal.overflow_add-size-4
overflow_add-size-4 c =
    let s = all_short c.args.mode (rule_of c.args.rule) c.args.group.label.now c.args.group.stamp.now c.args.group.«data».now c.requires.0
    c.requires.1 in
    omega (arith, s.short_label, s.short_data, c.stamp_span-span.ensures.1)

pub returns-then-buffer-size : goal.returns-then-buffer-size
returns-then-buffer-size c =
    wrote_nothing c.args.buffer.now _ (write_tight c.args.mode (group_of c.args.group.label.now c.args.group.stamp.now c.args.group.«data».now)
    (length c.args.buffer.now) (rule_of c.args.rule) c.requires.1 (omega (
      arith,
      wire_size c.args.mode (rule_of c.args.rule) c.args.group.label.now
          c.args.group.stamp.now c.args.group.«data».now c.requires.0 c.requires.1,
      c.stamp_span-span.ensures.0,
      c.if-buffer-size.true,
    )))

pub put_group-requires : goal.put_group-requires
put_group-requires c =
    rw c.mark.ensures (omega (
      arith,
      body_size c.args.mode (rule_of c.args.rule) c.args.group.label.now
          c.args.group.stamp.now c.args.group.«data».now c.requires.0 c.requires.1,
      c.stamp_span-span.ensures.0,
      c.if-buffer-size.false,
    ))

pub returns : goal.returns
returns c =
    wrote_laid c.args.buffer.now _ _ (write_done c.args.mode (group_of c.args.group.label.now c.args.group.stamp.now c.args.group.«data».now)
    (length c.args.buffer.now) (rule_of c.args.rule) c.requires.1 (omega (
      arith,
      wire_size c.args.mode (rule_of c.args.rule) c.args.group.label.now
          c.args.group.stamp.now c.args.group.«data».now c.requires.0 c.requires.1,
      c.stamp_span-span.ensures.0,
      c.if-buffer-size.false,
    ))) (omega (
      arith,
      wire_size c.args.mode (rule_of c.args.rule) c.args.group.label.now c.args.group.stamp.now c.args.group.«data».now
          c.requires.0 c.requires.1,
      c.stamp_span-span.ensures.0,
      c.if-buffer-size.false,
    ))
    (laid_marked c.args.mode c.args.group.label.now c.args.group.stamp.now c.args.group.«data».now c.args.buffer.now c.mark.ensures
    (laid_there (search rules) c.put_group.ensures.laid))
