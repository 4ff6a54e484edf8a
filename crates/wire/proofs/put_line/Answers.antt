-- The hex and a space are three bytes more, and what the byte is N bytes more.
use Rattle.std.proofs.Common.{arith, [], ◌∷◌, length, ◌≡◌, ◌+◌, refl}
use Rattle.std.specs.Prelude.{OnOk}
use Rattle.std.proofs.lemmas.Result.{on_ok_weaker}
use Rattle.wire.proofs.Lines.{array_behind, at_most}
use Rattle.wire.proofs.put_line.Goals as goal

pub returns-clause-whole : goal.returns-clause-whole
returns-clause-whole g c =
    let head : length c.put_array.new.self ≡ length c.args.page.now + 3
    = array_behind c.args.page.now (c.digit.result ∷ c.digit-2.result ∷ 32 ∷ []) c.put_array.new.self 3 c.in_ok-put_array.ensures.ok refl (omega (arith, c.requires)) in
    on_ok_weaker c.put_array-2.result
    (λ e. rw (← head) (array_behind c.put_array.new.self c.args.what.now c.put_array-2.new.self g.row.N e c.told-what (omega (arith, c.requires, head))))
    c.put_array-2.ensures.ok

pub returns-clause-most : goal.returns-clause-most
returns-clause-most g c =
    let head : length c.put_array.new.self ≡ length c.args.page.now + 3
    = array_behind c.args.page.now (c.digit.result ∷ c.digit-2.result ∷ 32 ∷ []) c.put_array.new.self 3 c.in_ok-put_array.ensures.ok refl (omega (arith, c.requires)) in
    let whole : OnOk c.put_array-2.result (length c.put_array-2.new.self ≡ length c.put_array.new.self + g.row.N)
    = on_ok_weaker c.put_array-2.result
    (λ e. array_behind c.put_array.new.self c.args.what.now c.put_array-2.new.self g.row.N e c.told-what (omega (arith, c.requires, head)))
    c.put_array-2.ensures.ok in
    let most = at_most c.put_array-2.result c.put_array.new.self c.put_array-2.new.self g.row.N whole
    (c.put_array-2.ensures.err (omega (arith, c.requires))) in
    omega (arith, most, head)
