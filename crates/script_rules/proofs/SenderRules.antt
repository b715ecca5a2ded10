-- How many senders a session has with one more.
use Rattle.std.specs.Prelude.{◌≡◌, ◌+◌, ◌++◌, [], ◌∷◌, Bool, true, false, cond, if◌then◌else◌, length, count_by}
use Rattle.std.specs.List.{filter}
use Rattle.std.proofs.Common.{ap, ◌∙◌}
use Rattle.std.proofs.lemmas.List.{length-map, length-append}
use Rattle.std.proofs.lemmas.List.Elements.{filter-append}
use Rattle.std.proofs.lemmas.List.Sums.{length-filter}
use Rattle.rsvp_base.specs.Orders.{sessions as by_session}
use Rattle.rsvp_base.proofs.Tables.{tied_self}
use Rattle.tree_model.specs.declared.locals.LocalSender.{LocalSender}
use Rattle.tree_model.specs.Wants.{Locals, live, of_session}
use Rattle.script_grammar.specs.Adds.{sends, with_sender}

module _ (l : Locals) (new : LocalSender) where
  abbrev after : Bool → Locals
  after b = if b then l else record l { senders = l.senders ++ (record { node = new.node; session = new.session; sender = new.sender }) ∷ [] }

  -- it sends already
  pub live_again : sends l.senders new.session new.sender ≡ true → length (live (with_sender l new.node new.session new.sender) new.session) ≡ count_by (of_session new.session) l.senders
  live_again e =
      ap (λ (b : Bool). length (live (after b) new.session)) e
      ∙ length-map (filter (of_session new.session) l.senders) (λ (x : LocalSender). x.sender)
      ∙ length-filter (of_session new.session) l.senders

  -- it begins to
  pub live_more : sends l.senders new.session new.sender ≡ false → length (live (with_sender l new.node new.session new.sender) new.session) ≡ count_by (of_session new.session) l.senders + 1
  live_more e =
      ap (λ (b : Bool). length (live (after b) new.session)) e
      ∙ length-map (filter (of_session new.session) (after false).senders) (λ (x : LocalSender). x.sender)
      ∙ ap length (filter-append (of_session new.session) l.senders (new ∷ []))
      ∙ length-append (filter (of_session new.session) l.senders) (filter (of_session new.session) (new ∷ []))
      ∙ ap (λ n. n + length (filter (of_session new.session) (new ∷ []))) (length-filter (of_session new.session) l.senders)
      ∙ ap (λ (b : Bool). count_by (of_session new.session) l.senders + length (cond b (new ∷ []) [])) (tied_self by_session new.session)
