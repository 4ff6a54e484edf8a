-- From where the line is, what is left of the piece leads where all of it leads from the start.
use Rattle.listing.proofs.Pieces.{none_lead, stretch_leads, stretch_less, stretch_most}
use Rattle.std.proofs.Common.{arith, rules, ◌∙◌, sym}
use Rattle.listing.proofs.list_piece.Goals as goal

pub slice_bounds-rest-count : goal.slice_bounds-rest-count
slice_bounds-rest-count c = stretch_most _ _ _ _ _ c.list_next-listed.ensures

pub slice_bounds-rest-start : goal.slice_bounds-rest-start
slice_bounds-rest-start c = omega (arith, stretch_most _ _ _ _ _ c.list_next-listed.ensures)

pub loop-rest-smaller : goal.loop-rest-smaller
loop-rest-smaller c = stretch_less _ _ _ _ _ c.list_next-listed.ensures (search rules)

pub loop-rest-preserved : goal.loop-rest-preserved
loop-rest-preserved c = record {
  same_mode = c.list_next-listed.ensures.same_mode ∙ c.loop-rest.invariant.same_mode;
  leads = stretch_leads _ _ _ _ _ c.list_next-listed.ensures ∙ c.loop-rest.invariant.leads;
}

pub returns : goal.returns
returns c = record {
  same_mode = c.loop-rest.invariant.same_mode;
  leads = sym (none_lead _ _ c.loop-rest.rest.now (search rules)) ∙ c.loop-rest.invariant.leads;
}
