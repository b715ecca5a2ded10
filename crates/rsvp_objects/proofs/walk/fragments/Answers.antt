use Rattle.std.proofs.Common.{◌≡◌, ◌<◌, ℕ, ◌∷◌, List, None, length, drop, refl, sym, ap, ◌∙◌, arith}
use Rattle.rsvp_objects.specs.Form.{words_in}
use Rattle.rsvp_objects.specs.Fragment.{more_in, behind_in}
use Rattle.rsvp_objects.proofs.AdspecContents.{rest_is}
use Rattle.rsvp_objects.proofs.Lists.{words_cons, words_nil}
use Rattle.rsvp_objects.proofs.Walks.{from_start}
use Rattle.rsvp_objects.proofs.walk.fragments.Goals as goal

pub loop-rest-init : goal.loop-rest-init
loop-rest-init c = (λ i. more_in (c.new-walk.ensures.due i) (c.new-walk.ensures.load i) (c.new-walk.ensures.kept i) (words_in c.args.bytes.now)) ∙ from_start (words_in c.args.bytes.now)

pub loop-rest-preserved : goal.loop-rest-preserved
loop-rest-preserved c =
    let s = c.loop-rest.walk in
    let t = c.take.new.self in
    let rest = c.loop-rest.rest.now in
    let step : words_in rest ≡ c.read_u32.result ∷ words_in (drop 4 rest) = words_cons rest c.loop-rest-test.true ∙ ap (λ (w : ℕ). w ∷ words_in (drop 4 rest)) (sym c.read_u32.ensures) in
    ap (λ (xs : List ℕ). more_in t.due t.load t.kept.items (words_in xs)) (rest_is 4 rest)
    ∙ sym (c.in_ok-take.ensures.some (words_in (drop 4 rest)))
    ∙ sym (ap (λ (ws : List ℕ). more_in s.due s.load s.kept.items ws) step)
    ∙ c.loop-rest.invariant

pub returns-in_err-take : goal.returns-in_err-take
returns-in_err-take c =
    let s = c.loop-rest.walk in
    let rest = c.loop-rest.rest.now in
    let step : words_in rest ≡ c.read_u32.result ∷ words_in (drop 4 rest) = words_cons rest c.loop-rest-test.true ∙ ap (λ (w : ℕ). w ∷ words_in (drop 4 rest)) (sym c.read_u32.ensures) in
    let none : behind_in (words_in c.args.bytes.now) ≡ None = sym c.loop-rest.invariant ∙ ap (λ (ws : List ℕ). more_in s.due s.load s.kept.items ws) step
    ∙ c.in_err-take.ensures.none refl (words_in (drop 4 rest)) in
    cc

pub returns : goal.returns
returns c =
    let s = c.loop-rest.walk in
    let rest = c.loop-rest.rest.now in
    let short : length rest < 4 = omega arith in
    c.end.ensures ∙ ap (λ (ws : List ℕ). more_in s.due s.load s.kept.items ws) (sym (words_nil rest short)) ∙ c.loop-rest.invariant
