-- Lists all of whose packets pass are those that keep the bound.
use Rattle.std.specs.Prelude.{◌≡◌, ℕ, ◌+◌, ◌*◌, ◌-◌, ◌<◌, ◌≤◌, List, [], ◌∷◌, ◌++◌}
use Rattle.std.proofs.Common.{sym, ap, subst, ◌∙◌, ⊎_elim, append_assoc, append-nil, arith, refl}
use Rattle.std.proofs.lemmas.Bool.{cases_lt}
use Rattle.rsvp_base.specs.TokenBucket.{TokenBucket}
use Rattle.load_policer.specs.Policing.{AllPass, AreFit, IsOver, KeepsTheBound, Packet, WhatKeepsTheBoundPasses, WhatPassesKeepsTheBound, counted_all, last_at}

-- a list that is not empty ends with a packet
record Ends (first : Packet) (rest : List Packet) : Type 0 where
  front : List Packet
  last : Packet
  is : first ∷ rest ≡ front ++ last ∷ []
  at : last_at first.at rest ≡ last.at

ends : (first : Packet) (rest : List Packet) → Ends first rest
ends first [] = record { front = []; last = first; is = refl; at = refl }
ends first (y ∷ ys) = let e = ends y ys in record { front = first ∷ e.front; last = e.last; is = ap (λ (zs : List Packet). first ∷ zs) e.is; at = e.at }

last_behind : (t : ℕ) (before : List Packet) (first : Packet) (rest : List Packet) → last_at t (before ++ first ∷ rest) ≡ last_at first.at rest
last_behind t [] first rest = refl
last_behind t (y ∷ before) first rest = last_behind y.at before first rest

module _ (f : TokenBucket) where
  passed_at : (before ps pre : List Packet) (y : Packet) (post : List Packet) → AllPass f before ps → ps ≡ pre ++ y ∷ post → IsOver f (before ++ pre) y → ⊥
  passed_at before ps [] y post all is over =
      let here : AllPass f before (y ∷ post) = subst (AllPass f before) is all in
      here.0.1 (subst (λ (zs : List Packet). IsOver f zs y) (append-nil before) over)
  passed_at before ps (z ∷ pre) y post all is over =
      let here : AllPass f before (z ∷ (pre ++ y ∷ post)) = subst (AllPass f before) is all in
      passed_at (before ++ z ∷ []) (pre ++ y ∷ post) pre y post here.1 refl (subst (λ (zs : List Packet). IsOver f zs y) (sym (append_assoc before (z ∷ []) pre)) over)

  pub keeps : (ps : List Packet) → AllPass f [] ps → KeepsTheBound f ps
  keeps ps all before first rest after is =
      let e = ends first rest in
      let whole : ps ≡ (before ++ e.front) ++ e.last ∷ after =
      is ∙ ap (λ (zs : List Packet). before ++ (zs ++ after)) e.is ∙ ap (λ (zs : List Packet). before ++ zs) (append_assoc e.front (e.last ∷ []) after)
      ∙ sym (append_assoc before e.front (e.last ∷ after)) in
      ⊎_elim
      (λ (above : f.r * (last_at first.at rest - first.at) + f.b * 1000000 < counted_all f (first ∷ rest) * 1000000).
      absurd (passed_at [] ps (before ++ e.front) e.last after all whole
      (record {
        before = before;
        first = first;
        rest = rest;
        stretch = append_assoc before e.front (e.last ∷ []) ∙ ap (λ (zs : List Packet). before ++ zs) (sym e.is);
        above = subst (λ (n : ℕ). f.r * (n - first.at) + f.b * 1000000 < counted_all f (first ∷ rest) * 1000000) e.at above;
      })))
      (λ (below : counted_all f (first ∷ rest) * 1000000 ≤ f.r * (last_at first.at rest - first.at) + f.b * 1000000). below)
      (cases_lt (f.r * (last_at first.at rest - first.at) + f.b * 1000000) (counted_all f (first ∷ rest) * 1000000))

  not_over : (ps before : List Packet) (x : Packet) (xs : List Packet) → KeepsTheBound f ps → ps ≡ before ++ x ∷ xs → IsOver f before x → ⊥
  not_over ps before x xs bound is over =
      let whole : ps ≡ over.before ++ ((over.first ∷ over.rest) ++ xs) =
      is ∙ sym (append_assoc before (x ∷ []) xs) ∙ ap (λ (zs : List Packet). zs ++ xs) over.stretch ∙ append_assoc over.before (over.first ∷ over.rest) xs in
      let last : last_at over.first.at over.rest ≡ x.at =
      sym (last_behind 0 over.before over.first over.rest) ∙ ap (last_at 0) (sym over.stretch) ∙ last_behind 0 before x [] in
      let most = subst (λ (n : ℕ). counted_all f (over.first ∷ over.rest) * 1000000 ≤ f.r * (n - over.first.at) + f.b * 1000000) last (bound over.before over.first over.rest xs whole) in
      let above = over.above in
      omega (arith, most, above)

  pub passes : (ps before xs : List Packet) → AreFit f xs → KeepsTheBound f ps → ps ≡ before ++ xs → AllPass f before xs
  passes ps before [] fit bound is = tt
  passes ps before (x ∷ xs) fit bound is = ((fit.0, not_over ps before x xs bound is), passes ps (before ++ x ∷ []) xs fit.1 bound (is ∙ sym (append_assoc before (x ∷ []) xs)))

pub what_passes_keeps_the_bound : WhatPassesKeepsTheBound
what_passes_keeps_the_bound f ps all = keeps f ps all

pub what_keeps_the_bound_passes : WhatKeepsTheBoundPasses
what_keeps_the_bound_passes f ps fit bound = passes f ps [] ps fit bound refl
