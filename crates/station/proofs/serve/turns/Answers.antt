-- What is left of the lines decides.
use Prim.Native.Nat.{◌*◌, ◌+◌}
use Rattle.std.proofs.Common.{rules, refl, sym, ◌∙◌, arith, length-set}
use Rattle.station.proofs.Entries.{put_long}
use Rattle.station.proofs.RowsServing.{serves_as, rows_to_come, row_long, heard_inside, rows_all, rows_more, rows_none}
use Rattle.station.proofs.Serving.{served_all, zeros_at_first, zeros_behind, zeros_behind_two, zeros_on}
use Rattle.station.proofs.serve.turns.Goals as goal

pub loop-i-init : goal.loop-i-init
unfolding served_all
loop-i-init c = record {
  same_sheet = refl;
  at_most = omega arith;
  as_long = refl;
  served = refl;
  marks_long = c.told-marks;
  places_long = c.told-places;
  contents_long = c.told-contents;
  no_count = zeros_at_first 8;
  no_offset = zeros_at_first 16;
  to_come = λ j h. refl;
  content_long = λ j h. absurd (omega arith);
  inbox_long = λ j h. absurd (omega arith);
}

pub loop-i-preserved-in_default : goal.loop-i-preserved-in_default
loop-i-preserved-in_default c =
    let v = c.loop-i.invariant in
    record {
      same_sheet = v.same_sheet;
      at_most = omega (arith, v.at_most);
      as_long = v.as_long;
      served =
          rows_none _ c.loop-i.marks c.loop-i.places c.loop-i.contents _ c.loop-i.counts c.loop-i.offsets
          c.loop-i.pen.sheet.now c.loop-i.pen.at c.loop-i.i c.turn-told.new.marks c.turn-told.new.places c.turn-told.new.content
          (omega (arith, c.loop-i-test.true)) v.marks_long v.places_long v.contents_long c.told-inboxes (rw c.in_default.is at c.turn-told.ensures)
          v.no_count v.no_offset v.served;
      marks_long = simp length-set v.marks_long;
      places_long = simp length-set v.places_long;
      contents_long = simp length-set v.contents_long;
      no_count = zeros_on c.loop-i.i (c.loop-i.i + 1) c.loop-i.counts v.no_count (omega arith);
      no_offset = zeros_on (2 * c.loop-i.i) (2 * (c.loop-i.i + 1)) c.loop-i.offsets v.no_offset (omega arith);
      to_come = rows_to_come c.loop-i.contents c.args.contents.now _ c.loop-i.i v.to_come;
      content_long =
          row_long c.loop-i.contents c.args.contents.now c.loop-i.i 128 v.to_come v.content_long c.turn-told.ensures.content_long;
      inbox_long =
          row_long c.args.inboxes.now c.args.inboxes.now c.loop-i.i 256 (λ j h. refl) v.inbox_long c.turn-told.ensures.inbox_long;
    }

pub put_entry-offset-requires : goal.put_entry-offset-requires
put_entry-offset-requires c =
    let v = c.loop-i.invariant in
    record {
      inside = heard_inside _ _ _ _ c.turn-told.ensures c.in-Some.is;
      enough = (omega (arith, v.at_most, c.loop-i-test.true), omega (arith, v.as_long, c.requires));
    }

pub loop-i-preserved : goal.loop-i-preserved
loop-i-preserved c =
    let v = c.loop-i.invariant in
    record {
      same_sheet = v.same_sheet ∙ sym c.put_entry-offset.ensures.same_sheet;
      at_most = omega (arith, v.at_most, c.put_entry-offset.ensures.entry.1);
      as_long =
          put_long _ _ _ _ _ c.put_entry-offset.ensures.entry.0
          (omega (arith, v.at_most, v.as_long, c.put_entry-offset.ensures.entry.1, c.requires, c.loop-i-test.true))
          ∙ v.as_long;
      served =
          rw c.to_le_bytes.ensures
          (rows_more _ c.loop-i.marks c.loop-i.places c.loop-i.contents _ c.loop-i.counts c.loop-i.offsets
          c.loop-i.pen.sheet.now c.loop-i.pen.at c.loop-i.i c.turn-told.new.marks c.turn-told.new.places c.turn-told.new.content
          _ _ c.put_entry-offset.result _ _
          (omega (arith, c.loop-i-test.true)) v.marks_long v.places_long v.contents_long c.told-inboxes c.turn-told.ensures c.in-Some.is
          c.put_entry-offset.ensures.offset c.put_entry-offset.ensures.entry.0 v.served);
      marks_long = simp length-set v.marks_long;
      places_long = simp length-set v.places_long;
      contents_long = simp length-set v.contents_long;
      no_count = zeros_behind c.loop-i.i (c.loop-i.i + 1) c.loop-i.i _ c.loop-i.counts v.no_count (omega arith) (omega arith);
      no_offset = zeros_behind_two c.loop-i.i _ _ c.loop-i.offsets v.no_offset;
      to_come = rows_to_come c.loop-i.contents c.args.contents.now _ c.loop-i.i v.to_come;
      content_long =
          row_long c.loop-i.contents c.args.contents.now c.loop-i.i 128 v.to_come v.content_long c.turn-told.ensures.content_long;
      inbox_long =
          row_long c.args.inboxes.now c.args.inboxes.now c.loop-i.i 256 (λ j h. refl) v.inbox_long c.turn-told.ensures.inbox_long;
    }

pub returns : goal.returns
returns c =
    let v = c.loop-i.invariant in
    serves_as _ (search rules)
    (rows_all c.args.marks.now c.args.places.now c.args.contents.now c.args.inboxes.now c.args.sheet.now _ c.loop-i.i
    c.told-marks c.told-places c.told-contents c.told-inboxes v.content_long v.inbox_long c.loop-i-test.false c.requires v.served)
