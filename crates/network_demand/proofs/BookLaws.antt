-- The books of lines, with one line more.
use Rattle.std.specs.Prelude.{◌≡◌, ℕ, ◌+◌, ◌<◌, ◌≤◌, Bool, true, false, ◌&&◌, ◌==◌, cond, List, [], ◌∷◌, ◌++◌, map as each, length, Option, None, Some, slice_set, slice_index_or, refl, if◌then◌else◌}
use Rattle.std.specs.Ordering.{eq_by_cmp}
use Rattle.std.proofs.Common.{zero, suc, sym, ap, subst, ◌∙◌, ⊎_elim, arith, append_assoc, take}
use Rattle.std.proofs.lemmas.List.{map-append}
use Rattle.rsvp_base.specs.Members.{In}
use Rattle.rsvp_base.specs.Orders.{Names, senders, entry_keys}
use Rattle.rsvp_base.specs.Sets.{union, IsWithin}
use Rattle.rsvp_base.specs.Table.{get, size}
use Rattle.rsvp_base.specs.declared.part.Part.{Part}
use Rattle.rsvp_base.specs.declared.session.Session.{Session}
use Rattle.rsvp_base.specs.declared.style.StyleKind.{StyleKind}
use Rattle.rsvp_base.specs.declared.style.Unit.{Unit as UnitOf}
use Rattle.rsvp_base.proofs.SetLaws.{size_within}
use Rattle.rsvp_base.proofs.Tables.{either, tied_same, same_table, get-put_in, got_put_in}
use Rattle.style_rules.specs.Parts.{has_name, part_join}
use Rattle.style_rules.specs.PartLaws.{union_least}
use Rattle.style_rules.specs.Merge.{those_at, all_by}
use Rattle.style_rules.specs.Lines.{Line, entry_key, BookTable, merged_book, at_end, book_of_end}
use Rattle.rsvp_base.specs.declared.entry_key.EntryKey.{EntryKey}
use Rattle.style_rules.proofs.Folds.{all_push, all_push_first}
use Rattle.style_rules.proofs.Merges.{get-merge_of}
use Rattle.tree_model.proofs.Following.{same_number, number_same}
use Rattle.tree_model.specs.Networks.{Net}
use Rattle.rsvp_base.specs.declared.addr.Addr.{Addr}
use Rattle.tree_model.specs.Goals.{addr_of}
use Rattle.network_demand.specs.declared.hop_want.HopWant.{HopWant}
use Rattle.network_demand.specs.Books.{joined_with, charged, book_at, HaveLines, NameOnly, want_lines, wants_lines}
use Rattle.network_demand.proofs.Pools.{take_more, filter_append, flat_append, append_none}

abbrev part_of_line : Line → Part
part_of_line l = l.part

module _ (ls : List Line) (l : Line) (named : has_name l.part ≡ true) where
  those_one : (k : EntryKey) (b : Bool) → eq_by_cmp entry_keys.cmp k (entry_key l) ≡ b → those_at entry_keys entry_key part_of_line k (l ∷ []) ≡ (if b then l ∷ [] else [])
  those_one k b e = ap (λ (t : Bool). if t then l ∷ [] else []) (ap (λ (t : Bool). t && eq_by_cmp entry_keys.cmp k (entry_key l)) named ∙ e)

  those_more : (k : EntryKey) (b : Bool) → eq_by_cmp entry_keys.cmp k (entry_key l) ≡ b → each part_of_line (those_at entry_keys entry_key part_of_line k (ls ++ l ∷ []))
      ≡ each part_of_line (those_at entry_keys entry_key part_of_line k ls) ++ (if b then l.part ∷ [] else [])
  those_more k b e =
      ap (each part_of_line) (filter_append (λ x. has_name x.part && eq_by_cmp entry_keys.cmp k (entry_key x)) ls (l ∷ [])
      ∙ ap (λ xs. those_at entry_keys entry_key part_of_line k ls ++ xs) (those_one k b e))
      ∙ map-append part_of_line (those_at entry_keys entry_key part_of_line k ls) (if b then l ∷ [] else [])
      ∙ ap (λ xs. each part_of_line (those_at entry_keys entry_key part_of_line k ls) ++ xs) (by b)
    where
      by : (b : Bool) → each part_of_line (if b then l ∷ [] else []) ≡ (if b then l.part ∷ [] else [])
      by true = refl
      by false = refl

  pub charged_more : merged_book (ls ++ l ∷ []) ≡ charged (merged_book ls) (entry_key l) l.part
  charged_more = same_table entry_keys (merged_book (ls ++ l ∷ [])) (charged (merged_book ls) (entry_key l) l.part) (λ k. either (eq_by_cmp entry_keys.cmp k (entry_key l)) (there k) (other k))
    where
      joined : (xs : List Part) → (o : Option Part) → all_by part_join xs ≡ o → all_by part_join (xs ++ l.part ∷ []) ≡ Some (joined_with o l.part)
      joined xs None e = all_push_first part_join xs l.part e
      joined xs (Some m) e = all_push part_join xs l.part m e

      at : (k : EntryKey) → get (merged_book ls) k ≡ all_by part_join (each part_of_line (those_at entry_keys entry_key part_of_line k ls))
      at k = get-merge_of entry_keys entry_key part_of_line ls k

      there : (k : EntryKey) → eq_by_cmp entry_keys.cmp k (entry_key l) ≡ true → get (merged_book (ls ++ l ∷ [])) k ≡ get (charged (merged_book ls) (entry_key l) l.part) k
      there k t =
          get-merge_of entry_keys entry_key part_of_line (ls ++ l ∷ []) k ∙ ap (all_by part_join) (those_more k true t)
          ∙ joined (each part_of_line (those_at entry_keys entry_key part_of_line k ls)) (get (merged_book ls) k) (sym (at k))
          ∙ ap (λ (q : EntryKey). Some (joined_with (get (merged_book ls) q) l.part)) (tied_same entry_keys k (entry_key l) t)
          ∙ sym (get-put_in entry_keys (merged_book ls) (entry_key l) (joined_with (get (merged_book ls) (entry_key l)) l.part) k
          ∙ ap (λ b. cond b (Some (joined_with (get (merged_book ls) (entry_key l)) l.part)) (get (merged_book ls) k)) t)

      other : (k : EntryKey) → eq_by_cmp entry_keys.cmp k (entry_key l) ≡ false → get (merged_book (ls ++ l ∷ [])) k ≡ get (charged (merged_book ls) (entry_key l) l.part) k
      other k f =
          get-merge_of entry_keys entry_key part_of_line (ls ++ l ∷ []) k ∙ ap (all_by part_join)
          (those_more k false f ∙ append_none (each part_of_line (those_at entry_keys entry_key part_of_line k ls)))
          ∙ sym (at k) ∙ sym (get-put_in entry_keys (merged_book ls) (entry_key l) (joined_with (get (merged_book ls) (entry_key l)) l.part) k
          ∙ ap (λ b. cond b (Some (joined_with (get (merged_book ls) (entry_key l)) l.part)) (get (merged_book ls) k)) f)

book_here : (e : ℕ) (ls : List Line) (l : Line) → has_name l.part ≡ true → l.end ≡ e → book_of_end e (ls ++ l ∷ []) ≡ charged (book_of_end e ls) (entry_key l) l.part
book_here e ls l named at =
    ap merged_book (filter_append (λ (x : Line). x.end == e) ls (l ∷ []) ∙ ap (λ (b : Bool). at_end e ls ++ (if b then l ∷ [] else [])) (number_same l.end e at)) ∙ charged_more (at_end e ls) l named

book_elsewhere : (e : ℕ) (ls : List Line) (l : Line) → (l.end ≡ e → ⊥) → book_of_end e (ls ++ l ∷ []) ≡ book_of_end e ls
book_elsewhere e ls l ne =
    ap merged_book (filter_append (λ (x : Line). x.end == e) ls (l ∷ []) ∙ ap (λ (b : Bool). at_end e ls ++ (if b then l ∷ [] else []))
    (either (l.end == e) (λ t. absurd (ne (same_number l.end e t))) (λ f. f)) ∙ append_none (at_end e ls))

-- ---- books by end
pub set_here : (books : List BookTable) (e : ℕ) (b : BookTable) → e < length books → book_at (slice_set books e b) e ≡ b
set_here [] e b lt = absurd (omega arith)
set_here (x ∷ xs) zero b lt = refl
set_here (x ∷ xs) (suc e) b lt = set_here xs e b (omega arith)

pub set_apart : (books : List BookTable) (e k : ℕ) (b : BookTable) → (e ≡ k → ⊥) → book_at (slice_set books e b) k ≡ book_at books k
set_apart [] e k b ne = refl
set_apart (x ∷ xs) zero zero b ne = absurd (ne refl)
set_apart (x ∷ xs) zero (suc k) b ne = refl
set_apart (x ∷ xs) (suc e) zero b ne = refl
set_apart (x ∷ xs) (suc e) (suc k) b ne = set_apart xs e k b (λ s. ne (ap suc s))

length_set : (books : List BookTable) (e : ℕ) (b : BookTable) → length (slice_set books e b) ≡ length books
length_set [] e b = refl
length_set (x ∷ xs) zero b = refl
length_set (x ∷ xs) (suc e) b = ap suc (length_set xs e b)

-- one line more
pub lines_more : (fed : List Line) (l : Line) (old new : List BookTable) → has_name l.part ≡ true → l.end < length old → new ≡ slice_set old l.end (charged (book_at old l.end) (entry_key l) l.part)
    → HaveLines fed old → HaveLines (fed ++ l ∷ []) new
lines_more fed l old new named inside is have e lt =
    let size : e < length old = (let s = ap length is ∙ length_set old l.end (charged (book_at old l.end) (entry_key l) l.part) in omega arith) in
    either (l.end == e)
    (λ t.
    let at = same_number l.end e t in
    ap (λ bs. book_at bs e) is ∙ subst (λ k. book_at (slice_set old l.end (charged (book_at old l.end) (entry_key l) l.part)) k ≡ charged (book_at old k) (entry_key l) l.part) at
    (set_here old l.end (charged (book_at old l.end) (entry_key l) l.part) inside)
    ∙ ap (λ b. charged b (entry_key l) l.part) (have e size) ∙ sym (book_here e fed l named at))
    (λ f.
    let ne : l.end ≡ e → ⊥ = λ s. (let t = number_same l.end e s in let z : true ≡ false = sym t ∙ f in cc) in
    ap (λ bs. book_at bs e) is ∙ set_apart old l.end e (charged (book_at old l.end) (entry_key l) l.part) ne ∙ have e size ∙ sym (book_elsewhere e fed l ne))

-- names stay among these
pub names_more : (st : StyleKind) (s : Session) (all : Names) (end : ℕ) (u : UnitOf) (p : Part) (old new : List BookTable) → end < length old → IsWithin p.senders all
    → new ≡ slice_set old end (charged (book_at old end) (record { session = s; style = st; unit = u }) p) → NameOnly st s all old → NameOnly st s all new
names_more st s all end u p old new inside within is only e v q got = by (end == e) refl
  where
    joined : (o : Option Part) → get (book_at old end) (record { session = s; style = st; unit = u }) ≡ o → IsWithin (joined_with o p).senders all
    joined None f = within
    joined (Some r) f = union_least r.senders p.senders all (only end u r f) within

    by : (b : Bool) → (end == e) ≡ b → IsWithin q.senders all
    by true t =
        let at = same_number end e t in
        let here : get (charged (book_at old end) (record { session = s; style = st; unit = u }) p) (record { session = s; style = st; unit = v }) ≡ Some q =
        ap (λ b. get b (record { session = s; style = st; unit = v })) (sym (set_here old end (charged (book_at old end) (record { session = s; style = st; unit = u }) p) inside)
        ∙ ap (book_at (slice_set old end (charged (book_at old end) (record { session = s; style = st; unit = u }) p))) at ∙ ap (λ bs. book_at bs e) (sym is)) ∙ got in
        ⊎_elim
        (λ (h : ((record { session = s; style = st; unit = v }) ≡ (record { session = s; style = st; unit = u }))
        × (q ≡ joined_with (get (book_at old end) (record { session = s; style = st; unit = u })) p)). subst (λ (x : Part). IsWithin x.senders all) (sym h.1)
        (joined (get (book_at old end) (record { session = s; style = st; unit = u })) refl))
        (λ (h : get (book_at old end) (record { session = s; style = st; unit = v }) ≡ Some q). only end v q h)
        (got_put_in entry_keys (book_at old end) (record { session = s; style = st; unit = u }) (joined_with (get (book_at old end) (record { session = s; style = st; unit = u })) p)
        (record { session = s; style = st; unit = v }) q here)
    by false f =
        let ne : end ≡ e → ⊥ = λ z. (let t = number_same end e z in let x : true ≡ false = sym t ∙ f in cc) in
        only e v q (ap (λ b. get b (record { session = s; style = st; unit = v })) (sym (set_apart old end e (charged (book_at old end) (record { session = s; style = st; unit = u }) p) ne)
        ∙ ap (λ bs. book_at bs e) (sym is)) ∙ got)

-- and so there is room for them all
pub room_for : (st : StyleKind) (s : Session) (all : Names) (end : ℕ) (u : UnitOf) (p q : Part) (books : List BookTable) → size all ≤ 16 → NameOnly st s all books → IsWithin p.senders all
    → get (book_at books end) (record { session = s; style = st; unit = u }) ≡ Some q → size (union q.senders p.senders) ≤ 16
room_for st s all end u p q books few only within e =
    let le = size_within senders (union q.senders p.senders) all (union_least q.senders p.senders all (only end u q e) within) in
    omega arith

-- ---- rows as lines
abbrev pub row_line : StyleKind → Session → ℕ → Addr → UnitOf × Part → Line
row_line st s end next e = record { style = st; session = s; end = end; next = next; unit = e.0; part = e.1 }

abbrev pub rows_lines : StyleKind → Session → ℕ → Addr → List (UnitOf × Part) → List Line
rows_lines st s end next es = each (row_line st s end next) es

pub rows_more : (st : StyleKind) (s : Session) (end : ℕ) (next : Addr) (es : List (UnitOf × Part)) (i : ℕ) (d e : UnitOf × Part) (fed : List Line) → i < length es → e ≡ slice_index_or es i d
    → fed ++ rows_lines st s end next (take (i + 1) es) ≡ (fed ++ rows_lines st s end next (take i es)) ++ row_line st s end next e ∷ []
rows_more st s end next es i d e fed lt is =
    ap (λ xs. fed ++ xs) (ap (rows_lines st s end next) (take_more es i d e lt is) ∙ map-append (row_line st s end next) (take i es) (e ∷ []))
    ∙ sym (append_assoc fed (rows_lines st s end next (take i es)) (row_line st s end next e ∷ []))

pub wants_more : (st : StyleKind) (s : Session) (net : Net) (ws : List HopWant) (i : ℕ) (d w : HopWant) (fed : List Line) → i < length ws → w ≡ slice_index_or ws i d
    → fed ++ wants_lines st s net (take (i + 1) ws) ≡ (fed ++ wants_lines st s net (take i ws)) ++ want_lines st s (addr_of net w.hop.to) w
wants_more st s net ws i d w fed lt is =
    ap (λ xs. fed ++ xs) (ap (wants_lines st s net) (take_more ws i d w lt is) ∙ flat_append (λ (w : HopWant). want_lines st s (addr_of net w.hop.to) w) (take i ws) (w ∷ [])
    ∙ ap (λ ys. wants_lines st s net (take i ws) ++ ys) (append_none (want_lines st s (addr_of net w.hop.to) w)))
    ∙ sym (append_assoc fed (wants_lines st s net (take i ws)) (want_lines st s (addr_of net w.hop.to) w))

pub only_one : {X : Type 0} (w v : X) (ws : List X) → In w ws → In v (w ∷ []) → In v ws
only_one {X} w v ws there i = ⊎_elim (λ (e : v ≡ w). subst (λ (x : X). In x ws) (sym e) there) (λ (k : ⊥). absurd k) i

pub read_at : (books : List BookTable) (e : ℕ) (b : BookTable) → e < length books → b ≡ slice_index_or books e b → b ≡ book_at books e
read_at books e b lt is = is ∙ by books e lt
  where
    by : (books : List BookTable) (e : ℕ) → e < length books → slice_index_or books e b ≡ book_at books e
    by [] e lt = absurd (omega arith)
    by (x ∷ xs) zero lt = refl
    by (x ∷ xs) (suc e) lt = by xs e (omega arith)
