-- One by one.
use Rattle.std.proofs.Common.{◌≡◌, sym, ◌∙◌, length, rules, arith, ext_get_or}
use Rattle.std.proofs.lemmas.List.{get_or-map, length-map}
use Rattle.characters.specs.Wire.{character_of}
use Rattle.line.proofs.rows.codes_of.Goals as goal

pub returns : goal.returns
returns c =
    let long : length c.map.result ≡ 8 = c.map.ensures.items.long in
    ext_get_or 0 _ _ (long ∙ sym (simp length-map c.told-eight)) (λ i h. let call = c.map.ensures.items.at i 0 0 (omega arith) in
    search rules ∙ sym (get_or-map character_of c.args.eight.now i 0 0 (omega (arith, c.told-eight))))
