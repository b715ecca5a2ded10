-- Each fact of a table of paths stands under its own session and sender.
use Rattle.std.specs.Prelude.{◌≡◌, ℕ, cond, List, [], ◌∷◌, map as each, Some}
use Rattle.std.proofs.Common.{sym, ap, ◌∙◌}
use Rattle.std.proofs.lemmas.Option.{same_Some}
use Rattle.std.specs.FinMap.Entries.{find}
use Rattle.std.specs.Ordering.{eq_by_cmp}
use Rattle.rsvp_base.proofs.Tables.{either, tied_same}
use Rattle.rsvp_base.specs.declared.session.Session.{Session}
use Rattle.rsvp_base.specs.declared.session.Sender.{Sender}
use Rattle.path_state.specs.Paths.{path_keys, path_key, fact_row}
use Rattle.path_state.specs.declared.fact.PathFact.{PathFact}

pub by_key : (xs : List (PathFact × ℕ)) (k : Session × Sender) (e : PathFact × ℕ) → find path_keys.cmp k (each fact_row xs) ≡ Some e → path_key e.0 ≡ k
by_key [] k e h = cc
by_key (x ∷ xs) k e h =
    either (eq_by_cmp path_keys.cmp k (path_key x.0))
    (λ t.
    let same : x ≡ e = same_Some x e (sym (ap (λ b. cond b (Some x) (find path_keys.cmp k (each fact_row xs))) t) ∙ h) in
    ap (λ (y : PathFact × ℕ). path_key y.0) (sym same) ∙ sym (tied_same path_keys k (path_key x.0) t))
    (λ f. by_key xs k e (sym (ap (λ b. cond b (Some x) (find path_keys.cmp k (each fact_row xs))) f) ∙ h))
