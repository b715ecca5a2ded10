-- Requests, what goes toward a hop, and books, by look-up.
use Rattle.std.specs.Prelude.{◌≡◌, ◌⊎◌, true, false, cond, List, [], ◌∷◌, ◌++◌, Option, Some, None, refl}
use Rattle.std.proofs.Common.{sym, ap, subst, ◌∙◌, inl, inr, ⊎_elim}
use Rattle.std.specs.List.{filter_map}
use Rattle.router_rules.specs.RsvpBase.declared.part.Part.{Part}
use Rattle.router_rules.specs.RsvpBase.declared.session.Sender.{Sender}
use Rattle.router_rules.specs.RsvpBase.declared.style.StyleKind.{StyleKind}
use Rattle.router_rules.specs.RsvpBase.declared.style.StyleKind.TheVariants.{Wild, Fixed, Shared}
use Rattle.router_rules.specs.RsvpBase.Keys.{pairs}
use Rattle.router_rules.specs.RsvpBase.Members.{In}
use Rattle.router_rules.specs.RsvpBase.Orders.{sessions, senders, styles, units, Names, entry_keys}
use Rattle.router_rules.specs.RsvpBase.Sets.{cut}
use Rattle.router_rules.specs.RsvpBase.Table.{empty, get, has}
use Rattle.router_rules.proofs.RsvpBase.Counts.{in_found, found_in}
use Rattle.router_rules.proofs.RsvpBase.Members.{in_append, in_left, in_right, in_each, to_each}
use Rattle.router_rules.proofs.RsvpBase.SetLaws.{and_both, has-cut}
use Rattle.router_rules.proofs.RsvpBase.UnderLaws.{get-under}
use Rattle.router_rules.specs.CutLaws.{cut_of, made_of}
use Rattle.router_rules.specs.Lines.{Line, LineKey, next_hops, line_keys, entry_key, at_end}
use Rattle.router_rules.specs.Parts.{part_cut}
use Rattle.router_rules.specs.Toward.{Request, toward as merged_toward}
use Rattle.router_rules.proofs.Merges.{get-merge_of}
use Rattle.router_rules.proofs.Towards.{get-toward}
use Rattle.router_rules.specs.Books.{line_of, lines, lines_of}
use Rattle.router_rules.specs.Facts.{Facts, ResvState, Walls, resvs_of, resvs_in, wants_in}
use Rattle.router_rules.specs.Known.{Lane, lanes, names_via, names_via_where, via}
use Rattle.router_rules.specs.NodeConfig.{NodeConfig, goes_out}
use Rattle.router_rules.specs.Requests.{is_blockaded, is_style, request_of, requests, resv_part, resv_request, toward, want_part, want_request}
use Rattle.laws_bounds.specs.FactLaws.{IsResvRequest, IsWantRequest, IsLine, RequestsAndToward, BooksAndLines}
use Rattle.laws_bounds.proofs.Knowing.{names_told, named_told, via_told, lanes_made}
use Rattle.router_rules.proofs.RsvpBase.Fronts.{in_filter_map, to_filter_map}
use Rattle.laws_bounds.proofs.Lists.{one_name, passed}
use Rattle.laws_bounds.proofs.Tests.{style_told, ties}

-- ---- requests
requested : (w : Walls) (l : Lane) (v : Option Part) (r : Request) → request_of w l v ≡ Some r → (v ≡ Some r.part) × (r.blockaded ≡ is_blockaded l.style w l r.part)
requested w l None r e = cc
requested w l (Some part) r e =
    let is : ◌≡◌ {A = Request} (record { part = part; blockaded = is_blockaded l.style w l part }) r = cc in
    (ap (λ (z : Request). Some z.part) is, sym (ap (λ (z : Request). z.blockaded) is) ∙ ap (λ (z : Request). is_blockaded l.style w l z.part) is)

to_requested : (w : Walls) (l : Lane) (v : Option Part) (r : Request) → v ≡ Some r.part → r.blockaded ≡ is_blockaded l.style w l r.part → request_of w l v ≡ Some r
to_requested w l v r e b = ap (request_of w l) e ∙ (λ i. Some (record { part = r.part; blockaded = sym b i }))

pub request_told : (p : NodeConfig) (f : Facts) (l : Lane) (r : Request) → In r (requests p f l) → IsResvRequest p f l r ⊎ IsWantRequest f l r
request_told p f l r i =
    ⊎_elim
    (λ (j : In r (filter_map (resv_request p f l) (resvs_in l.style f l.session).rows)).
    let t = in_filter_map (resv_request p f l) r (resvs_in l.style f l.session).rows j in
    let q = requested f.walls l (resv_part p f l t.0) r t.2 in
    inl (record {
      key = t.0.0;
      resv = t.0.1;
      there = sym (get-under sessions (pairs next_hops units) (resvs_of l.style f) l.session t.0.0) ∙ in_found (pairs next_hops units) (resvs_in l.style f l.session) t.0.0 t.0.1 t.1;
      part = q.0;
      blockaded = q.1;
    }))
    (λ (j : In r (filter_map (want_request f l) (wants_in f l.session).rows)).
    let t = in_filter_map (want_request f l) r (wants_in f l.session).rows j in
    let s = passed (is_style t.0.1.style l.style) (request_of f.walls l (want_part l.style (names_via f l) t.0.1.part)) r t.2 in
    let q = requested f.walls l (want_part l.style (names_via f l) t.0.1.part) r s.1 in
    inr (record {
      unit = t.0.0;
      want = t.0.1;
      there = sym (get-under sessions units f.wants l.session t.0.0) ∙ in_found units (wants_in f l.session) t.0.0 t.0.1 t.1;
      style = style_told t.0.1.style l.style s.0;
      part = q.0;
      blockaded = q.1;
    }))
    (in_append r _ _ i)

pub to_request : (p : NodeConfig) (f : Facts) (l : Lane) (r : Request) → IsResvRequest p f l r ⊎ IsWantRequest f l r → In r (requests p f l)
to_request p f l r t =
    ⊎_elim
    (λ (q : IsResvRequest p f l r).
    in_left r (filter_map (resv_request p f l) (resvs_in l.style f l.session).rows) _
    (to_filter_map (resv_request p f l) r (q.key, q.resv) (resvs_in l.style f l.session).rows
    (found_in (pairs next_hops units) (resvs_in l.style f l.session) q.key q.resv (get-under sessions (pairs next_hops units) (resvs_of l.style f) l.session q.key ∙ q.there))
    (to_requested f.walls l _ r q.part q.blockaded)))
    (λ (q : IsWantRequest f l r).
    in_right r (filter_map (resv_request p f l) (resvs_in l.style f l.session).rows) (filter_map (want_request f l) (wants_in f l.session).rows)
    (to_filter_map (want_request f l) r (q.unit, q.want) (wants_in f l.session).rows
    (found_in units (wants_in f l.session) q.unit q.want (get-under sessions units f.wants l.session q.unit ∙ q.there))
    (ap (λ b. cond b (request_of f.walls l (want_part l.style (names_via f l) q.want.part)) None) (ties styles q.want.style l.style q.style) ∙ to_requested f.walls l _ r q.part q.blockaded)))
    t

-- ---- nothing goes toward a hop from which no path comes
-- what is left of a part has a name of the set
some_left : (part x : Part) (names : Names) → part_cut part names ≡ Some x → (s : Sender) × (has names s ≡ true)
some_left part x names e = let r = one_name (cut part.senders names) (cut_of part x names e).some in (r.0, (and_both _ _ (sym (has-cut senders part.senders names r.0) ∙ r.1)).1)

no_request : (p : NodeConfig) (f : Facts) (l : Lane) → has (lanes f) l ≡ false → (r : Request) → In r (requests p f l) → ⊥
no_request p f l none r i =
    ⊎_elim
    (λ (q : IsResvRequest p f l r).
    let s = some_left q.resv.part r.part (names_via_where f l (goes_out p l.session q.key.0.0)) q.part in
    let n = names_told f l (goes_out p l.session q.key.0.0) s.0 s.1 in
    nobody n.sender n.among)
    (λ (q : IsWantRequest f l r). by l.style refl q.want.part q.part)
    (request_told p f l r i)
  where
    nobody : (x : Sender) → has (via f l.session l.hop) x ≡ true → ⊥
    nobody x e = let z : true ≡ false = sym (lanes_made f l x (via_told f l.session l.hop x e)) ∙ none in cc

    named : (s : Sender) → has (names_via f l) s ≡ true → ⊥
    named s e = let n = named_told l.style (via f l.session l.hop) s e in nobody n.sender n.among

    by : (st : StyleKind) → l.style ≡ st → (part : Part) → want_part l.style (names_via f l) part ≡ Some r.part → ⊥
    by Wild is part e =
        let w = ap (λ z. want_part z (names_via f l) part) (sym is) ∙ e in
        let s = one_name (names_via f l) (made_of (names_via f l) part.flow r.part w).some in named s.0 s.1
    by Fixed is part e = let w = ap (λ z. want_part z (names_via f l) part) (sym is) ∙ e in let s = some_left part r.part (names_via f l) w in named s.0 s.1
    by Shared is part e = let w = ap (λ z. want_part z (names_via f l) part) (sym is) ∙ e in let s = some_left part r.part (names_via f l) w in named s.0 s.1

-- a list without members is empty
no_member : {A : Type 0} (xs : List A) → ((x : A) → In x xs → ⊥) → xs ≡ []
no_member [] h = refl
no_member (x ∷ xs) h = absurd (h x (inl refl))

pub nowhere : (p : NodeConfig) (f : Facts) (l : Lane) → has (lanes f) l ≡ false → toward p f l ≡ empty
nowhere p f l none = ap (merged_toward l.style) (no_member (requests p f l) (no_request p f l none))

pub requests_and_toward : RequestsAndToward
requests_and_toward =
    record {
      each = λ p f l r. (request_told p f l r, to_request p f l r);
      at = λ p f l u. get-toward l.style (requests p f l) u;
      nowhere = nowhere;
    }

-- ---- lines and books
line_told : (f : Facts) (st : StyleKind) (line : Line) → In line (lines_of st (resvs_of st f)) → IsLine f line
line_told f st line i =
    let r = in_each (line_of st) line (resvs_of st f).rows i in
    record { style = st; key = r.0.0; resv = r.0.1; there = in_found line_keys (resvs_of st f) r.0.0 r.0.1 r.1; is = r.2 }

pub lines_told : (f : Facts) (line : Line) → In line (lines f) → IsLine f line
lines_told f line i =
    ⊎_elim (λ (j : In line (lines_of Wild (resvs_of Wild f))). line_told f Wild line j)
    (λ (j : In line (lines_of Fixed (resvs_of Fixed f) ++ lines_of Shared (resvs_of Shared f))).
    ⊎_elim (λ (k : In line (lines_of Fixed (resvs_of Fixed f))). line_told f Fixed line k) (λ (k : In line (lines_of Shared (resvs_of Shared f))). line_told f Shared line k) (in_append line _ _ j))
    (in_append line _ _ i)

to_line : (f : Facts) (st : StyleKind) (k : LineKey) (r : ResvState) → get (resvs_of st f) k ≡ Some r → In (line_of st (k, r)) (lines_of st (resvs_of st f))
to_line f st k r e = to_each (line_of st) (k, r) (resvs_of st f).rows (found_in line_keys (resvs_of st f) k r e)

to_lines_at : (f : Facts) (st : StyleKind) (k : LineKey) (r : ResvState) → get (resvs_of st f) k ≡ Some r → In (line_of st (k, r)) (lines f)
to_lines_at f Wild k r e = in_left _ (lines_of Wild (resvs_of Wild f)) _ (to_line f Wild k r e)
to_lines_at f Fixed k r e = in_right _ (lines_of Wild (resvs_of Wild f)) _ (in_left _ (lines_of Fixed (resvs_of Fixed f)) _ (to_line f Fixed k r e))
to_lines_at f Shared k r e = in_right _ (lines_of Wild (resvs_of Wild f)) _ (in_right _ (lines_of Fixed (resvs_of Fixed f)) _ (to_line f Shared k r e))

pub to_lines : (f : Facts) (line : Line) → IsLine f line → In line (lines f)
to_lines f line q = subst (λ z. In z (lines f)) (sym q.is) (to_lines_at f q.style q.key q.resv q.there)

pub books_and_lines : BooksAndLines
books_and_lines =
    record {
      each = λ f line. (lines_told f line, to_lines f line);
      at = λ f i k. get-merge_of entry_keys entry_key (λ (l : Line). l.part) (at_end i (lines f)) k;
    }
