-- The lists of the three styles are read as what they were written for.
use Rattle.std.proofs.Common.{◌≡◌, ℕ, ◌+◌, ◌<◌, ◌≤◌, true, false, List, [], ◌∷◌, ◌++◌, length, length-append, Option, Some, refl, sym, ap, subst, ◌∙◌, append_assoc, arith, T}
use Rattle.std.specs.Prelude.{map as each}
use Rattle.std.specs.FinMap.Entries.{is_sorted}
use Rattle.std.proofs.lemmas.Bool.{ne_eqb}
use Rattle.std.proofs.lemmas.List.{append-nil}
use Rattle.rsvp_base.specs.declared.session.Sender.{Sender}
use Rattle.rsvp_base.specs.declared.style.StyleKind.{StyleKind}
use Rattle.rsvp_base.specs.declared.style.StyleKind.TheVariants.{Fixed}
use Rattle.rsvp_base.specs.Orders.{senders}
use Rattle.rsvp_base.specs.Table.{first, second}
use Rattle.rsvp_base.specs.TokenBucket.{TokenBucket}
use Rattle.rsvp_objects.specs.declared.object.Object.TheVariants as object
use Rattle.rsvp_messages.specs.declared.message.Kind.{Kind}
use Rattle.message_codec.specs.declared.seen.Seen.{Seen}
use Rattle.message_codec.specs.Places.{has_place, is_repeated}
use Rattle.message_codec.specs.Said.{with_object}
use Rattle.message_codec.specs.Table.{is_unread}
use Rattle.message_codec.specs.Objects.{pair_objects, filter_objects}
use Rattle.message_codec.proofs.Fitting.{fits, Fit, with_objects}
use Rattle.message_codec.proofs.Own.{Filter, AreAbove, new_name, above_more, paired, with_flow}

-- what a list leaves as it was
pub record IsKept (s t : Seen) : Type 0 where
  pub session : t.session ≡ s.session
  pub hop : t.hop ≡ s.hop
  pub period : t.period ≡ s.period
  pub error : t.error ≡ s.error
  pub scope : t.scope ≡ s.scope
  pub confirm : t.confirm ≡ s.confirm

kept : (s : Seen) → IsKept s s
kept s = record { session = refl; hop = refl; period = refl; error = refl; scope = refl; confirm = refl }

-- ---- FILTER_SPECs

pub record IsAt (s : Seen) (k : Option StyleKind) (f : Option TokenBucket) (done : List Filter) : Type 0 where
  pub style : s.style ≡ k
  pub flow : s.flow ≡ f
  pub filters : s.filters ≡ done

-- a message of this kind takes FILTER_SPECs there
pub record Takes (kind : Kind) (k : Option StyleKind) (f : Option TokenBucket) : Type 0 where
  pub place : (t : Seen) → t.style ≡ k → t.flow ≡ f → has_place kind t 10 ≡ true
  pub once : (t : Seen) → is_repeated kind t 10 ≡ false
  pub read : is_unread kind 10 ≡ false

filter_next : (s : Seen) (x : Sender) (k : Option StyleKind) (f : Option TokenBucket) (done : List Filter) → IsAt s k f done → IsAt (with_object s (object.Filter x)) k f (done ++ (x, f) ∷ [])
unfolding with_object
filter_next s x k f done at = record { style = at.style; flow = at.flow; filters = λ i. at.filters i ++ (x, at.flow i) ∷ [] }

room : (n m : ℕ) → n + (m + 1) ≤ 16 → n ≡ 16 → ⊥
room n m h e = omega arith

pub filters_fit : {X : Type 0} (kind : Kind) (k : Option StyleKind) (f : Option TokenBucket) (takes : Takes kind k f) (rows : List (Sender × X)) (done : List Filter) (s : Seen) → IsAt s k f done
    → T (is_sorted senders.cmp rows) → AreAbove done rows
    → length done + length rows ≤ 16 → Fit kind s (filter_objects (each (λ e. e.0) rows))
filters_fit kind k f takes [] done s at up above few = tt
filters_fit kind k f takes (r ∷ rows) done s at up above few = (
  fits kind s (object.Filter r.0) (takes.place s at.style at.flow) (takes.once s) takes.read (λ p. rw (at.filters, new_name done r.0 above.0, ne_eqb (length done) 16 (λ e. omega arith)) refl),
  filters_fit kind k f takes rows (done ++ (r.0, f) ∷ []) (with_object s (object.Filter r.0)) (filter_next s r.0 k f done at) (second _ _ up) (above_more done (r.0, f) rows above.1 (first _ _ up))
      (omega (arith, length-append done ((r.0, f) ∷ []))),
)

pub filters_end : (k : Option StyleKind) (f : Option TokenBucket) (ss : List Sender) (done : List Filter) (s : Seen) → IsAt s k f done
    → IsAt (with_objects s (filter_objects ss)) k f (done ++ with_flow f ss) × IsKept s (with_objects s (filter_objects ss))
unfolding with_object
filters_end k f [] done s at = (subst (IsAt s k f) (sym (append-nil done)) at, kept s)
filters_end k f (x ∷ ss) done s at =
    let t = with_object s (object.Filter x) in
    let r = filters_end k f ss (done ++ (x, f) ∷ []) t (filter_next s x k f done at) in (
      subst (IsAt (with_objects t (filter_objects ss)) k f) (append_assoc done ((x, f) ∷ []) (with_flow f ss)) r.0,
      record { session = r.1.session; hop = r.1.hop; period = r.1.period; error = r.1.error; scope = r.1.scope; confirm = r.1.confirm },
    )

-- ---- FLOWSPECs, each with a FILTER_SPEC behind it

pub record IsEven (s : Seen) (done : List Filter) : Type 0 where
  pub style : s.style ≡ Some Fixed
  pub due : s.due ≡ false
  pub filters : s.filters ≡ done

pub record TakesPairs (kind : Kind) : Type 0 where
  pub flow_place : (t : Seen) → t.style ≡ Some Fixed → t.due ≡ false → has_place kind t 9 ≡ true
  pub flow_once : (t : Seen) → is_repeated kind t 9 ≡ false
  pub flow_read : is_unread kind 9 ≡ false
  pub filter : (f : TokenBucket) → Takes kind (Some Fixed) (Some f)

flow_next : (s : Seen) (f : TokenBucket) (done : List Filter) → IsEven s done → IsAt (with_object s (object.FlowOf f)) (Some Fixed) (Some f) done
unfolding with_object
flow_next s f done at = record { style = at.style; flow = refl; filters = append-nil s.filters ∙ at.filters }

pair_next : (s : Seen) (e : Sender × TokenBucket) (done : List Filter) → IsEven s done → IsEven (with_object (with_object s (object.FlowOf e.1)) (object.Filter e.0)) (done ++ (e.0, Some e.1) ∷ [])
unfolding with_object
pair_next s e done at = record { style = at.style; due = refl; filters = ap (λ (t : List Filter). t ++ (e.0, Some e.1) ∷ []) (append-nil s.filters ∙ at.filters) }

pub pairs_fit : (kind : Kind) (takes : TakesPairs kind) (rows : List (Sender × TokenBucket)) (done : List Filter) (s : Seen) → IsEven s done → T (is_sorted senders.cmp rows) → AreAbove done rows
    → length done + length rows ≤ 16
    → Fit kind s (pair_objects rows)
pairs_fit kind takes [] done s at up above few = tt
pairs_fit kind takes (r ∷ rows) done s at up above few =
    let t = with_object s (object.FlowOf r.1) in
    let now = flow_next s r.1 done at in (
      fits kind s (object.FlowOf r.1) (takes.flow_place s at.style at.due) (takes.flow_once s) takes.flow_read (λ p. refl),
      (
        fits kind t (object.Filter r.0) ((takes.filter r.1).place t now.style now.flow) ((takes.filter r.1).once t) (takes.filter r.1).read
            (λ p. rw (now.filters, new_name done r.0 above.0, ne_eqb (length done) 16 (λ e. omega arith)) refl),
        pairs_fit kind takes rows (done ++ (r.0, Some r.1) ∷ []) (with_object t (object.Filter r.0)) (pair_next s r done at) (second _ _ up)
            (above_more done (r.0, Some r.1) rows above.1 (first _ _ up)) (omega (arith, length-append done ((r.0, Some r.1) ∷ []))),
      ),
    )

pub pairs_end : (rows : List (Sender × TokenBucket)) (done : List Filter) (s : Seen) → IsEven s done
    → IsEven (with_objects s (pair_objects rows)) (done ++ paired rows) × IsKept s (with_objects s (pair_objects rows))
unfolding with_object
pairs_end [] done s at = (subst (IsEven s) (sym (append-nil done)) at, kept s)
pairs_end (e ∷ rows) done s at =
    let t = with_object (with_object s (object.FlowOf e.1)) (object.Filter e.0) in
    let r = pairs_end rows (done ++ (e.0, Some e.1) ∷ []) t (pair_next s e done at) in (
      subst (IsEven (with_objects t (pair_objects rows))) (append_assoc done ((e.0, Some e.1) ∷ []) (paired rows)) r.0,
      record { session = r.1.session; hop = r.1.hop; period = r.1.period; error = r.1.error; scope = r.1.scope; confirm = r.1.confirm },
    )

-- the last FLOWSPEC is there
pub pairs_flow : (rows : List (Sender × TokenBucket)) (s : Seen) → 0 < length rows → (f : TokenBucket) × ((with_objects s (pair_objects rows)).flow ≡ Some f)
unfolding with_object
pairs_flow [] s h = absurd (omega arith)
pairs_flow (e ∷ []) s h = (e.1, refl)
pairs_flow (e ∷ d ∷ rows) s h = pairs_flow (d ∷ rows) (with_object (with_object s (object.FlowOf e.1)) (object.Filter e.0)) (omega arith)
