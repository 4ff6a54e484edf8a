-- The counts and the offsets, laid over the first bytes of the sheet with the entries.
use Rattle.std.proofs.Common.{rules, refl, ◌≡◌, length}
use Rattle.std.proofs.lemmas.Slice.{put_mid-paste}
use Rattle.station.proofs.Rounding.{serves_done}
use Rattle.station.proofs.serve.serve.Goals as goal

pub returns : goal.returns
returns c =
    let eight : length c.turns.result.0 ≡ 8 = search rules in
    let sixteen : length c.turns.result.1 ≡ 16 = search rules in
    serves_done _ _ c.args.sheet.now _ _ _ _ _ c.requires eight sixteen c.turns.ensures
    (put_mid-paste 0 8 _ _ _ _ c.copy_from_slice.ensures.after eight refl)
    (put_mid-paste 8 16 _ _ _ _ c.copy_from_slice-2.ensures.after sixteen refl)
