-- What is left of the bytes decides.
use Rattle.std.proofs.Common.{◌≡◌, ◌∙◌, ◌+◌, ◌-◌, length, arith, rules}
use Rattle.line.proofs.Feeding.{as_fed, feed_on, feed_heard, fed_none, none_of, cut_of}
use Rattle.line.proofs.InRows.{as_written}
use Rattle.line.proofs.feed.Goals as goal

pub returns-then-is_empty : goal.returns-then-is_empty
returns-then-is_empty c = as_fed _ _ (fed_none 0 c.args.line c.args.content.now c.args.bytes.now (search rules))

pub loop-rest-init : goal.loop-rest-init
loop-rest-init c =
    let none : length c.args.bytes.now - length c.args.bytes.now ≡ 0 = omega arith in
    record {
      within = omega arith;
      same =
          rw none
          (as_written c.args.line c.from-at.result 0 c.args.content.now c.args.bytes.now (search rules) c.from-at.ensures);
    }

pub returns-in_default : goal.returns-in_default
returns-in_default c =
    let none = none_of c.loop-rest.rest.now c.take_row-row.result.count c.take_row-row.ensures.most c.in_default.ensures.cases in
    let all : length c.args.bytes.now - length c.loop-rest.rest.now + c.take_row-row.result.count ≡ length c.args.bytes.now =
    omega arith in
    as_fed _ _ (c.loop-rest.invariant.same ∙ c.take_row-row.ensures.goes _ ∙ rw (all, c.from.ensures) (fed_none _ _ _ _ none.0))

pub loop-rest-preserved : goal.loop-rest-preserved
loop-rest-preserved c =
    let cut = cut_of c.loop-rest.rest.now c.take_row-row.result.count c.in-Some.field-0-0.now c.in-Some.behind.now
    c.take_row-row.ensures.most c.in-Some.ensures.cases.0 in
    let taken : length c.args.bytes.now - length c.loop-rest.rest.now + c.take_row-row.result.count + 1
    ≡ length c.args.bytes.now - length c.in-Some.behind.now = omega arith in
    record {
      within = omega arith;
      same =
          c.loop-rest.invariant.same
          ∙ c.take_row-row.ensures.goes _
          ∙ rw (cut.0, ← taken)
          (feed_on c.take_row-row.result.line _ c.in-Some.field-0-0.now c.in-Some.behind.now _ _ _ c.step-reaction.ensures c.in-Nothing.is);
    }

pub returns-in_default-heard : goal.returns-in_default-heard
returns-in_default-heard c =
    let cut = cut_of c.loop-rest.rest.now c.take_row-row.result.count c.in-Some.field-0-0.now c.in-Some.behind.now
    c.take_row-row.ensures.most c.in-Some.ensures.cases.0 in
    let taken : length c.args.bytes.now - length c.loop-rest.rest.now + c.take_row-row.result.count + 1
    ≡ length c.args.bytes.now - length c.in-Some.behind.now = omega arith in
    as_fed _ _ (c.loop-rest.invariant.same
    ∙ c.take_row-row.ensures.goes _
    ∙ rw (cut.0, ← taken, c.from-in_default-heard.ensures)
    (feed_heard c.take_row-row.result.line _ c.in-Some.field-0-0.now c.in-Some.behind.now _ _ _ c.step-reaction.ensures c.in_default-heard.not-Nothing))

pub returns : goal.returns
returns c =
    let none : length c.loop-rest.rest.now ≡ 0 = search rules in
    let all : length c.args.bytes.now - length c.loop-rest.rest.now ≡ length c.args.bytes.now = omega (arith, none) in
    as_fed _ _ (c.loop-rest.invariant.same ∙ rw (all, c.from-2.ensures) (fed_none _ _ _ _ none))
