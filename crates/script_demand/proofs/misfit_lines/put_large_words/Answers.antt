use Rattle.std.proofs.Common.{◌≡◌, ◌++◌, ◌∙◌, List, ℕ, ap}
use Rattle.std.specs.Fmt.{decimal}
use Rattle.std.specs.Prelude.{codes}
use Rattle.script_demand.specs.Texts.{large_words}
use Rattle.script_demand.proofs.Chains.{last, more}
use Rattle.script_demand.proofs.misfit_lines.put_large_words.Goals as goal

pub returns : goal.returns
unfolding large_words
returns c =
    let old = c.args.out.now.items in
    let a : List ℕ = codes "packets of up to " in
    let b : List ℕ = decimal c.args.most in
    let d : List ℕ = codes " bytes, and its MTU is " in
    let e : List ℕ = decimal c.args.mtu in
    let most : c.put_number.new.out.items ≡ c.put.new.out.items ++ b = c.in_ok-put_number.ensures.text ∙ ap (λ n. c.put.new.out.items ++ decimal n) c.from.ensures in
    let mtu : c.put_number-2.new.out.items ≡ c.put-2.new.out.items ++ e = c.in_ok-put_number-2.ensures.text ∙ ap (λ n. c.put-2.new.out.items ++ decimal n) c.from-2.ensures in
    let one = more old c.put.new.out.items c.put_number.new.out.items a b c.in_ok-put.ensures.text most in
    let two = more old c.put_number.new.out.items c.put-2.new.out.items (a ++ b) d one c.in_ok-put-2.ensures.text in
    let three = more old c.put-2.new.out.items c.put_number-2.new.out.items (a ++ b ++ d) e two mtu in
    last c.put-3.result old c.put_number-2.new.out.items c.put-3.new.out.items (a ++ b ++ d ++ e) (codes "\n") three c.put-3.ensures.text
