-- Each answer is the definition at the tests that led to it.
use Rattle.groups.proofs.Walks.{check_front}
use Rattle.std.proofs.Common.{Err, length-take, ◌∙◌, ap, sym, arith}
use Rattle.groups.proofs.Telling.{told_listed, told_nowhere}
use Rattle.groups.proofs.Laws.Places.{behind_checked, behind_listed, behind_open, behind_short, behind_unlisted}
use Rattle.groups.specs.declared.Refusal.TheVariants.{CheckWrong, LabelUnknown, Misshapen}
use Rattle.groups.proofs.reading.behind_label.Goals as goal

pub returns-then-n-lt2 : goal.returns-then-n-lt2
returns-then-n-lt2 c =
    ap Err c.into.ensures ∙ told_nowhere _ _ _ Misshapen tt tt (behind_short c.args.mode c.args.label.now c.args.rest.now
    c.if-n-lt2.true)

pub returns-then-rest-end : goal.returns-then-rest-end
returns-then-rest-end c =
    ap Err c.into-then-rest-end.ensures ∙ told_nowhere _ _ _ Misshapen tt tt (behind_open c.args.mode c.args.label.now c.args.rest.now c.if-n-lt2.false (λ
    z. c.if-rest-end.true (z ∙ sym c.separator.ensures)))

pub slice_bounds-body-end : goal.slice_bounds-body-end
slice_bounds-body-end c = simp length-take (omega arith)

pub returns-then-rest-n : goal.returns-then-rest-n
returns-then-rest-n c =
    ap Err c.into-then-rest-n.ensures ∙ told_nowhere _ _ _ CheckWrong tt tt (behind_checked c.args.mode c.args.label.now c.args.rest.now c.if-n-lt2.false
    (c.if-rest-end.false ∙ c.separator.ensures) (λ z. c.if-rest-n.true (z ∙ sym
    (c.check_by.ensures ∙ check_front c.args.mode c.args.label.now c.args.rest.now c.args.front c.requires.0 c.if-n-lt2.false))))

pub fields_of-requires : goal.fields_of-requires
fields_of-requires c = c.requires.2

pub find-requires : goal.find-requires
find-requires c = c.requires.1.inside

pub returns-in_default : goal.returns-in_default
returns-in_default c =
    let body = c.if-rest-n.false ∙ c.check_by.ensures ∙ check_front c.args.mode c.args.label.now c.args.rest.now c.args.front c.requires.0 c.if-n-lt2.false in
    ap Err c.into-in_default.ensures ∙ told_nowhere _ _ _ LabelUnknown tt tt (behind_unlisted c.args.mode c.args.label.now c.args.rest.now c.if-n-lt2.false
    (c.if-rest-end.false ∙ c.separator.ensures) body (rw c.requires.1.begins at (sym c.in_default.ensures)))

pub returns : goal.returns
returns c =
    let listed = rw c.requires.1.begins at (sym c.in-Some.ensures) in
    let body = c.if-rest-n.false ∙ c.check_by.ensures ∙ check_front c.args.mode c.args.label.now c.args.rest.now c.args.front c.requires.0 c.if-n-lt2.false in
    c.fields_of.ensures ∙ told_listed c.args.mode _ c.args.label.now c.args.rest.now (behind_listed c.args.mode c.args.label.now c.args.rest.now _
    c.if-n-lt2.false (c.if-rest-end.false ∙ c.separator.ensures) body listed) listed
