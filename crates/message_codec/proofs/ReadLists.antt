-- Sets and tables of the senders of filters.
use Rattle.std.proofs.Common.{◌≡◌, ℕ, ◌+◌, ◌<◌, ◌≤◌, Bool, true, false, cond, List, ◌∷◌, length, get_or, drop, add-one, drop-cons, Option, Result, Ok, Err, refl, sym, ap, subst, ◌∙◌, arith}
use Rattle.std.specs.Prelude.{OnOk, IsErr, ◌↔◌, map as each}
use Rattle.rsvp_base.specs.declared.session.Sender.{Sender}
use Rattle.rsvp_base.specs.Orders.{Names, senders}
use Rattle.rsvp_base.specs.Sets.{with_key, with_keys}
use Rattle.rsvp_base.specs.Table.{has, size, put_in}
use Rattle.rsvp_base.specs.TokenBucket.{TokenBucket}
use Rattle.rsvp_base.proofs.Tables.{size-put_in}
use Rattle.rsvp_messages.specs.FlowTable.{FlowTable}

one_more_at_most : (b : Bool) (n : ℕ) → cond b n (n + 1) ≤ n + 1
one_more_at_most true n = omega arith
one_more_at_most false n = omega arith

pub size_with_key : (s : Names) (k : Sender) → size (with_key s k) ≤ size s + 1
size_with_key s k = subst (λ (n : ℕ). n ≤ size s + 1) (sym (size-put_in senders s k tt)) (one_more_at_most (has s k) (size s))

pub size_with_flow : (t : FlowTable) (k : Sender) (f : TokenBucket) → size (put_in t k f) ≤ size t + 1
size_with_flow t k f = subst (λ (n : ℕ). n ≤ size t + 1) (sym (size-put_in senders t k f)) (one_more_at_most (has t k) (size t))

-- where there is room, what was put is there
pub had_room : {E : Type 0} (P : Type 0) (r : Result (Unit {0}) E) (old more : ℕ) → OnOk r P → (IsErr r ↔ (16 < more)) → more ≤ old + 1 → old < 16 → P
had_room P (Ok x) old more ok full grows lt = ok
had_room P (Err e) old more ok full grows lt = let past = full.0 refl in absurd (omega arith)

-- ---- the filter at an index

abbrev Filter : Type 0
Filter = Sender × Option TokenBucket

here : (fs : List Filter) (i : ℕ) (f : Filter) → i < length fs → f ≡ get_or fs i f → drop i fs ≡ f ∷ drop (i + 1) fs
here fs i f lt there =
    let split : drop i fs ≡ get_or fs i f ∷ drop (i + 1) fs = rw (add-one, drop-cons fs i f) refl in
    split ∙ ap (λ (x : Filter). x ∷ drop (i + 1) fs) (sym there)

pub names_step : (s t u : Names) (fs : List Filter) (i : ℕ) (f : Filter) → with_keys s (each (λ e. e.0) (drop i fs)) ≡ t → i < length fs → f ≡ get_or fs i f → u ≡ with_key s f.0
    → with_keys u (each (λ e. e.0) (drop (i + 1) fs)) ≡ t
names_step s t u fs i f is lt there e = ap (λ (v : Names). with_keys v (each (λ e. e.0) (drop (i + 1) fs))) e
    ∙ sym (ap (λ (es : List Filter). with_keys s (each (λ e. e.0) es)) (here fs i f lt there)) ∙ is
