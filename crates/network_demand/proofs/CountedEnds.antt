-- The ends that a test of them and of what they owe keeps, one more at a time.
use Rattle.std.specs.Prelude.{◌≡◌, ℕ, ◌+◌, Bool, cond, List, [], ◌∷◌, ◌++◌, length, Option, Some, slice_get}
use Rattle.std.specs.List.{filter, range_with_len}
use Rattle.std.proofs.Common.{sym, ap, ◌∙◌}
use Rattle.network_demand.specs.Books.{book_at}
use Rattle.style_rules.specs.Lines.{BookTable}
use Rattle.tree_model.specs.declared.hops.End.{End}
use Rattle.network_demand.specs.Misfits.{numbers_with}
use Rattle.network_demand.proofs.Ranges.{kept_more}

module _ (p : Option End → BookTable → Bool) (ends : List End) (books : List BookTable) where
  abbrev pub is_kept : ℕ → Bool
  is_kept e = p (slice_get ends e) (book_at books e)

  pub one_end_more : (end : ℕ) (x : End) (b : BookTable) (holds : Bool) (old new : List ℕ) → slice_get ends end ≡ Some x → b ≡ book_at books end → holds ≡ p (Some x) b
      → old ≡ filter is_kept (range_with_len 0 end) → new ≡ old ++ cond holds (end ∷ []) [] → new ≡ filter is_kept (range_with_len 0 (end + 1))
  one_end_more end x b holds old new at book is before after =
      let here : holds ≡ is_kept end = is ∙ (λ i. p (sym at i) (book i)) in
      after ∙ (λ i. before i ++ cond (here i) (end ∷ []) []) ∙ sym (kept_more is_kept end)

  pub all_ends : (end : ℕ) (found : List ℕ) → end ≡ length ends → found ≡ filter is_kept (range_with_len 0 end) → found ≡ numbers_with p ends (book_at books)
  all_ends end found at_end is = is ∙ ap (λ n. filter is_kept (range_with_len 0 n)) at_end
