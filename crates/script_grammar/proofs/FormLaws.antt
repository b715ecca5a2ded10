-- Words say a line exactly where they are of a kind of line, as many as it has, and each of the form of its field.
use Rattle.std.proofs.Common.{◌≡◌, ◌∙◌, ℕ, ◌<◌, List, [], ◌∷◌, Bool, true, false, ◌&&◌, ◌==◌, nat_le, Option, None, Some, is_none, is_some, option_map, length, ap, refl, arith, codes, if◌then◌else◌}
use Rattle.std.specs.Str.{bytes_eq}
use Rattle.rsvp_base.specs.declared.style.StyleKind.{StyleKind}
use Rattle.rsvp_base.specs.declared.style.StyleKind.TheVariants.{Wild, Fixed, Shared}
use Rattle.script_words.specs.Steps.{◌>>=◌}
use Rattle.script_words.specs.Numbers.{number_of}
use Rattle.rsvp_base.specs.EndNames.{is_name, name_of}
use Rattle.script_words.specs.Addresses.{quad_of, quads_of}
use Rattle.script_words.specs.Sessions.{session_of, sender_of, senders_of}
use Rattle.script_words.specs.Flows.{flow_of}
use Rattle.script_grammar.specs.LineKinds.{stale_senders, want_senders, resv_of, stale_resv_line, want_of, want_line, stale_blockade_line, stale_hop, stale_sender, hop_wall, sender_wall}
use Rattle.script_grammar.specs.LineKinds.{said_by, said_other, said_in_flight, said_at_node, said_left_over}
use Rattle.script_grammar.specs.declared.line.ScriptLine.{ScriptLine}
use Rattle.script_grammar.specs.Kinds.{declared_kind, flight_kind, left_kind, node_kind, other_kind, refined, third_of}
use Rattle.script_grammar.specs.KindLaws.{are_formed}
use Rattle.script_grammar.specs.declared.kind.Kind.{Kind}
use Rattle.script_grammar.specs.declared.kind.Kind.TheVariants as kind
use Rattle.script_grammar.proofs.Formed.{formed, some_where, named, said_of, still_wrong, none_of, apart, longer, period_formed, seed_formed, node_formed, end_formed, latency_formed, hop_formed}
use Rattle.script_grammar.proofs.Formed.{stale_path_formed, send_formed, drop_formed, advert_formed, quit_formed, clear_formed, wait_formed, rounds_formed, deliver_formed, lose_formed, copy_formed}
use Rattle.script_grammar.proofs.Formed.{inject_formed, trace_formed, report_formed, pass_formed, flags_formed, adverts_formed, link_formed, reroute_formed}

-- ---- words that are read by a style
-- a style that is not WF
not_wild : {B : Type 0} (b c : Bool) (f : StyleKind → Option B) (r : Option ℕ) (p : ℕ) → is_some (f Fixed) ≡ is_none r → is_some (f Shared) ≡ is_none r
    → is_some ((if b then Some Fixed else (if c then Some Shared else None)) >>= f) ≡ is_none (if is_some (if b then Some Fixed else (if c then Some Shared else None)) then r else Some p)
not_wild true c f r p fixed shared = fixed
not_wild false true f r p fixed shared = shared
not_wild false false f r p fixed shared = refl

resv_by : (is : Bool) (end session style addr senders flow left : List ℕ) → bytes_eq style (codes "WF") ≡ is
    → is_some (stale_resv_line (end ∷ session ∷ style ∷ addr ∷ senders ∷ flow ∷ left ∷ []))
    ≡ are_formed (Some (refined kind.StaleResv style)) (end ∷ session ∷ style ∷ addr ∷ senders ∷ flow ∷ left ∷ [])
unfolding stale_resv_line resv_of
resv_by true end session style addr senders flow left wf = rw wf (rw wf (
    formed (name_of end) _ _ _ _ (named end) (λ _.
    formed (session_of session) _ _ _ _ refl (λ _.
    formed (quad_of addr) _ _ _ _ refl (λ _.
    formed (stale_senders Wild senders) _ _ _ _ (said_of (quads_of senders) _) (λ _.
    formed (flow_of flow) _ _ _ _ refl (λ _.
    formed (number_of left) _ _ _ _ refl (λ _. refl))))))))
resv_by false end session style addr senders flow left wf = rw wf (rw wf (
    formed (name_of end) _ _ _ _ (named end) (λ _.
    formed (session_of session) _ _ _ _ refl (λ _.
    not_wild (bytes_eq style (codes "FF")) (bytes_eq style (codes "SE")) _ _ _ (
    formed (quad_of addr) _ _ _ _ refl (λ _.
    formed (senders_of senders) _ _ _ _ refl (λ _.
    formed (flow_of flow) _ _ _ _ refl (λ _.
    formed (number_of left) _ _ _ _ refl (λ _. refl))))) (
    formed (quad_of addr) _ _ _ _ refl (λ _.
    formed (senders_of senders) _ _ _ _ refl (λ _.
    formed (flow_of flow) _ _ _ _ refl (λ _.
    formed (number_of left) _ _ _ _ refl (λ _. refl)))))))))

resv_miscounted : (style : List ℕ) (words : List (List ℕ)) → (length words == 7) ≡ false → false ≡ are_formed (Some (refined kind.StaleResv style)) words
resv_miscounted style words wrong = by_style (bytes_eq style (codes "WF")) refl
  where
    by_style : (is : Bool) → bytes_eq style (codes "WF") ≡ is → false ≡ are_formed (Some (refined kind.StaleResv style)) words
    by_style true wf = rw (wf, wrong) refl
    by_style false wf = rw (wf, wrong) refl

stale_resv_formed : (words : List (List ℕ)) → is_some (stale_resv_line words) ≡ are_formed (Some (refined kind.StaleResv (third_of words))) words
unfolding stale_resv_line
stale_resv_formed (end ∷ session ∷ style ∷ addr ∷ senders ∷ flow ∷ left ∷ []) = resv_by (bytes_eq style (codes "WF")) end session style addr senders flow left refl
stale_resv_formed (end ∷ session ∷ style ∷ addr ∷ senders ∷ flow ∷ left ∷ another ∷ more) =
    let words = end ∷ session ∷ style ∷ addr ∷ senders ∷ flow ∷ left ∷ another ∷ more in resv_miscounted style words (apart 7 (length words) (omega arith))
stale_resv_formed (end ∷ session ∷ style ∷ []) = resv_miscounted style (end ∷ session ∷ style ∷ []) refl
stale_resv_formed (end ∷ session ∷ style ∷ addr ∷ []) = resv_miscounted style (end ∷ session ∷ style ∷ addr ∷ []) refl
stale_resv_formed (end ∷ session ∷ style ∷ addr ∷ senders ∷ []) = resv_miscounted style (end ∷ session ∷ style ∷ addr ∷ senders ∷ []) refl
stale_resv_formed (end ∷ session ∷ style ∷ addr ∷ senders ∷ flow ∷ []) = resv_miscounted style (end ∷ session ∷ style ∷ addr ∷ senders ∷ flow ∷ []) refl
stale_resv_formed _ = refl

want_by : (is : Bool) (node session style senders flow : List ℕ) → bytes_eq style (codes "WF") ≡ is
    → is_some (want_line (node ∷ session ∷ style ∷ senders ∷ flow ∷ [])) ≡ are_formed (Some (refined kind.Want style)) (node ∷ session ∷ style ∷ senders ∷ flow ∷ [])
unfolding want_line want_of
want_by true node session style senders flow wf = rw wf (rw wf (
    formed (name_of node) _ _ _ _ (named node) (λ _.
    formed (session_of session) _ _ _ _ refl (λ _.
    formed (want_senders Wild senders) _ _ _ _ (some_where (bytes_eq senders (codes "*")) []) (λ _.
    formed (flow_of flow) _ _ _ _ refl (λ _. refl))))))
want_by false node session style senders flow wf = rw wf (rw wf (
    formed (name_of node) _ _ _ _ (named node) (λ _.
    formed (session_of session) _ _ _ _ refl (λ _.
    not_wild (bytes_eq style (codes "FF")) (bytes_eq style (codes "SE")) _ _ _ (
    formed (senders_of senders) _ _ _ _ refl (λ _.
    formed (flow_of flow) _ _ _ _ refl (λ _. refl))) (
    formed (senders_of senders) _ _ _ _ refl (λ _.
    formed (flow_of flow) _ _ _ _ refl (λ _. refl)))))))

confirmed_by : (is sure : Bool) (node session style senders flow confirm : List ℕ) → bytes_eq style (codes "WF") ≡ is → bytes_eq confirm (codes "confirm") ≡ sure
    → is_some (want_line (node ∷ session ∷ style ∷ senders ∷ flow ∷ confirm ∷ [])) ≡ are_formed (Some (refined kind.Want style)) (node ∷ session ∷ style ∷ senders ∷ flow ∷ confirm ∷ [])
unfolding want_line want_of
confirmed_by true true node session style senders flow confirm wf told = rw wf (rw (wf, told) (
    formed (name_of node) _ _ _ _ (named node) (λ _.
    formed (session_of session) _ _ _ _ refl (λ _.
    formed (want_senders Wild senders) _ _ _ _ (some_where (bytes_eq senders (codes "*")) []) (λ _.
    formed (flow_of flow) _ _ _ _ refl (λ _. refl))))))
confirmed_by false true node session style senders flow confirm wf told = rw wf (rw (wf, told) (
    formed (name_of node) _ _ _ _ (named node) (λ _.
    formed (session_of session) _ _ _ _ refl (λ _.
    not_wild (bytes_eq style (codes "FF")) (bytes_eq style (codes "SE")) _ _ _ (
    formed (senders_of senders) _ _ _ _ refl (λ _.
    formed (flow_of flow) _ _ _ _ refl (λ _. refl))) (
    formed (senders_of senders) _ _ _ _ refl (λ _.
    formed (flow_of flow) _ _ _ _ refl (λ _. refl)))))))
confirmed_by true false node session style senders flow confirm wf told = rw wf (rw (wf, told) (
    still_wrong (is_name node) _ _ (
    still_wrong (is_some (session_of session)) _ _ (
    still_wrong (bytes_eq senders (codes "*")) _ _ (
    still_wrong (is_some (flow_of flow)) _ _ (refl))))))
confirmed_by false false node session style senders flow confirm wf told = rw wf (rw (wf, told) (
    still_wrong (is_name node) _ _ (
    still_wrong (is_some (session_of session)) _ _ (
    still_wrong (is_some (if bytes_eq style (codes "FF") then Some Fixed else (if bytes_eq style (codes "SE") then Some Shared else None))) _ _ (
    still_wrong (is_some (senders_of senders)) _ _ (
    still_wrong (is_some (flow_of flow)) _ _ (refl)))))))

many : (n : ℕ) → 6 < n → (nat_le 5 n && nat_le n 6) ≡ false
many n more = grind arith

want_miscounted : (style : List ℕ) (words : List (List ℕ)) → (nat_le 5 (length words) && nat_le (length words) 6) ≡ false → false ≡ are_formed (Some (refined kind.Want style)) words
want_miscounted style words wrong = by_style (bytes_eq style (codes "WF")) refl
  where
    by_style : (is : Bool) → bytes_eq style (codes "WF") ≡ is → false ≡ are_formed (Some (refined kind.Want style)) words
    by_style true wf = rw (wf, wrong) refl
    by_style false wf = rw (wf, wrong) refl

want_formed : (words : List (List ℕ)) → is_some (want_line words) ≡ are_formed (Some (refined kind.Want (third_of words))) words
unfolding want_line
want_formed (node ∷ session ∷ style ∷ senders ∷ flow ∷ []) = want_by (bytes_eq style (codes "WF")) node session style senders flow refl
want_formed (node ∷ session ∷ style ∷ senders ∷ flow ∷ confirm ∷ []) =
    confirmed_by (bytes_eq style (codes "WF")) (bytes_eq confirm (codes "confirm")) node session style senders flow confirm refl refl
want_formed (node ∷ session ∷ style ∷ senders ∷ flow ∷ confirm ∷ another ∷ more) =
    let words = node ∷ session ∷ style ∷ senders ∷ flow ∷ confirm ∷ another ∷ more in want_miscounted style words (many (length words) (omega arith))
want_formed (node ∷ session ∷ style ∷ []) = want_miscounted style (node ∷ session ∷ style ∷ []) refl
want_formed (node ∷ session ∷ style ∷ senders ∷ []) = want_miscounted style (node ∷ session ∷ style ∷ senders ∷ []) refl
want_formed _ = refl

-- ---- words that are read by a target
hop_formed_behind : (node session target : List ℕ) (behind : List (List ℕ)) → bytes_eq target (codes "hop") ≡ true
    → is_some (stale_hop node session behind) ≡ are_formed (Some kind.HopBlockade) (node ∷ session ∷ target ∷ behind)
unfolding stale_hop hop_wall
hop_formed_behind node session target (end ∷ addr ∷ sub ∷ flow ∷ left ∷ []) hop = rw hop (
    formed (name_of node) _ _ _ _ (named node) (λ _.
    formed (session_of session) _ _ _ _ refl (λ _.
    formed (name_of end) _ _ _ _ (named end) (λ _.
    formed (quad_of addr) _ _ _ _ refl (λ _.
    formed (number_of sub) _ _ _ _ refl (λ _.
    formed (flow_of flow) _ _ _ _ refl (λ _.
    formed (number_of left) _ _ _ _ refl (λ _. refl))))))))
hop_formed_behind node session target (end ∷ addr ∷ sub ∷ flow ∷ left ∷ another ∷ more) hop =
    longer 8 (length (node ∷ session ∷ target ∷ end ∷ addr ∷ sub ∷ flow ∷ left ∷ another ∷ more)) _ (omega arith)
hop_formed_behind node session target _ hop = refl

sender_formed_behind : (node session target : List ℕ) (behind : List (List ℕ)) → bytes_eq target (codes "hop") ≡ false → bytes_eq target (codes "sender") ≡ true
    → is_some (stale_sender node session behind) ≡ are_formed (Some kind.SenderBlockade) (node ∷ session ∷ target ∷ behind)
unfolding stale_sender sender_wall
sender_formed_behind node session target (whom ∷ sub ∷ flow ∷ left ∷ []) hop sender = rw (hop, sender) (
    formed (name_of node) _ _ _ _ (named node) (λ _.
    formed (session_of session) _ _ _ _ refl (λ _.
    formed (sender_of whom) _ _ _ _ refl (λ _.
    formed (number_of sub) _ _ _ _ refl (λ _.
    formed (flow_of flow) _ _ _ _ refl (λ _.
    formed (number_of left) _ _ _ _ refl (λ _. refl)))))))
sender_formed_behind node session target (whom ∷ sub ∷ flow ∷ left ∷ another ∷ more) hop sender =
    longer 7 (length (node ∷ session ∷ target ∷ whom ∷ sub ∷ flow ∷ left ∷ another ∷ more)) _ (omega arith)
sender_formed_behind node session target _ hop sender = refl

no_target : (node session target : List ℕ) (behind : List (List ℕ)) → bytes_eq target (codes "hop") ≡ false → bytes_eq target (codes "sender") ≡ false
    → false ≡ are_formed (Some kind.Blockade) (node ∷ session ∷ target ∷ behind)
no_target node session target behind hop sender =
    none_of (nat_le 3 (length (node ∷ session ∷ target ∷ behind))) _ (still_wrong (is_name node) _ _ (still_wrong (is_some (session_of session)) _ _ (rw (hop, sender) refl)))

stale_blockade_formed : (words : List (List ℕ)) → is_some (stale_blockade_line words) ≡ are_formed (Some (refined kind.Blockade (third_of words))) words
unfolding stale_blockade_line
stale_blockade_formed (node ∷ session ∷ target ∷ behind) = by_target (bytes_eq target (codes "hop")) (bytes_eq target (codes "sender")) refl refl
  where
    by_target : (is_hop is_sender : Bool) → bytes_eq target (codes "hop") ≡ is_hop → bytes_eq target (codes "sender") ≡ is_sender
        → is_some (stale_blockade_line (node ∷ session ∷ target ∷ behind)) ≡ are_formed (Some (refined kind.Blockade target)) (node ∷ session ∷ target ∷ behind)
    by_target true is_sender hop sender =
        let said : is_some (stale_blockade_line (node ∷ session ∷ target ∷ behind)) ≡ is_some (stale_hop node session behind) = rw hop refl in
        let of_kind : kind.HopBlockade ≡ refined kind.Blockade target = rw hop refl in
        said ∙ hop_formed_behind node session target behind hop ∙ ap (λ k. are_formed (Some k) (node ∷ session ∷ target ∷ behind)) of_kind
    by_target false true hop sender =
        let said : is_some (stale_blockade_line (node ∷ session ∷ target ∷ behind)) ≡ is_some (stale_sender node session behind) = rw (hop, sender) refl in
        let of_kind : kind.SenderBlockade ≡ refined kind.Blockade target = rw (hop, sender) refl in
        said ∙ sender_formed_behind node session target behind hop sender ∙ ap (λ k. are_formed (Some k) (node ∷ session ∷ target ∷ behind)) of_kind
    by_target false false hop sender =
        let none : is_some (stale_blockade_line (node ∷ session ∷ target ∷ behind)) ≡ false = rw (hop, sender) refl in
        let of_kind : kind.Blockade ≡ refined kind.Blockade target = rw (hop, sender) refl in
        none ∙ no_target node session target behind hop sender ∙ ap (λ k. are_formed (Some k) (node ∷ session ∷ target ∷ behind)) of_kind
stale_blockade_formed _ = refl

-- ---- by the first word
by_kind : (behind : List (List ℕ)) (b : Bool) (k : Kind) (x y : Option ScriptLine) (ks : Option Kind) → is_some x ≡ are_formed (Some (refined k (third_of behind))) behind
    → is_some y ≡ are_formed (option_map (λ kind. refined kind (third_of behind)) ks) behind
    → is_some (if b then x else y) ≡ are_formed (option_map (λ kind. refined kind (third_of behind)) (if b then Some k else ks)) behind
by_kind behind true k x y ks this others = this
by_kind behind false k x y ks this others = others

other_formed : (first : List ℕ) (behind : List (List ℕ))
    → is_some (said_other first behind) ≡ are_formed (option_map (λ kind. refined kind (third_of behind)) (other_kind first)) behind
unfolding said_other other_kind
other_formed first behind =
    by_kind behind (bytes_eq first (codes "trace")) kind.Trace _ _ _ (trace_formed behind) (
    by_kind behind (bytes_eq first (codes "report")) kind.Report _ _ _ (report_formed behind) (
    by_kind behind (bytes_eq first (codes "flags")) kind.Flags _ _ _ (flags_formed behind) (
    by_kind behind (bytes_eq first (codes "adverts")) kind.Adverts _ _ _ (adverts_formed behind) (
    by_kind behind (bytes_eq first (codes "reroute")) kind.Reroute _ _ _ (reroute_formed behind) (refl)))))

flight_formed : (first : List ℕ) (behind : List (List ℕ))
    → is_some (said_in_flight first behind) ≡ are_formed (option_map (λ kind. refined kind (third_of behind)) (flight_kind first)) behind
unfolding said_in_flight flight_kind
flight_formed first behind =
    by_kind behind (bytes_eq first (codes "wait")) kind.Wait _ _ _ (wait_formed behind) (
    by_kind behind (bytes_eq first (codes "pass")) kind.Pass _ _ _ (pass_formed behind) (
    by_kind behind (bytes_eq first (codes "rounds")) kind.Rounds _ _ _ (rounds_formed behind) (
    by_kind behind (bytes_eq first (codes "deliver")) kind.Deliver _ _ _ (deliver_formed behind) (
    by_kind behind (bytes_eq first (codes "lose")) kind.Lose _ _ _ (lose_formed behind) (
    by_kind behind (bytes_eq first (codes "copy")) kind.Copy _ _ _ (copy_formed behind) (
    by_kind behind (bytes_eq first (codes "inject")) kind.Inject _ _ _ (inject_formed behind) (
    other_formed first behind)))))))

at_node_formed : (first : List ℕ) (behind : List (List ℕ))
    → is_some (said_at_node first behind) ≡ are_formed (option_map (λ kind. refined kind (third_of behind)) (node_kind first)) behind
unfolding said_at_node node_kind
at_node_formed first behind =
    by_kind behind (bytes_eq first (codes "send")) kind.Send _ _ _ (send_formed behind) (
    by_kind behind (bytes_eq first (codes "drop")) kind.Drop _ _ _ (drop_formed behind) (
    by_kind behind (bytes_eq first (codes "advert")) kind.Advert _ _ _ (advert_formed behind) (
    by_kind behind (bytes_eq first (codes "want")) kind.Want _ _ _ (want_formed behind) (
    by_kind behind (bytes_eq first (codes "quit")) kind.Quit _ _ _ (quit_formed behind) (
    by_kind behind (bytes_eq first (codes "clear")) kind.Clear _ _ _ (clear_formed behind) (
    flight_formed first behind))))))

left_over_formed : (first : List ℕ) (behind : List (List ℕ))
    → is_some (said_left_over first behind) ≡ are_formed (option_map (λ kind. refined kind (third_of behind)) (left_kind first)) behind
unfolding said_left_over left_kind
left_over_formed first behind =
    by_kind behind (bytes_eq first (codes "stale-path")) kind.StalePath _ _ _ (stale_path_formed behind) (
    by_kind behind (bytes_eq first (codes "stale-resv")) kind.StaleResv _ _ _ (stale_resv_formed behind) (
    by_kind behind (bytes_eq first (codes "stale-blockade")) kind.Blockade _ _ _ (stale_blockade_formed behind) (
    at_node_formed first behind)))

pub said_by_formed : (first : List ℕ) (behind : List (List ℕ))
    → is_some (said_by (first ∷ behind)) ≡ are_formed (option_map (λ kind. refined kind (third_of behind)) (declared_kind first)) behind
unfolding said_by declared_kind
said_by_formed first behind =
    by_kind behind (bytes_eq first (codes "period")) kind.Period _ _ _ (period_formed behind) (
    by_kind behind (bytes_eq first (codes "seed")) kind.Seed _ _ _ (seed_formed behind) (
    by_kind behind (bytes_eq first (codes "node")) kind.Node _ _ _ (node_formed behind) (
    by_kind behind (bytes_eq first (codes "end")) kind.End _ _ _ (end_formed behind) (
    by_kind behind (bytes_eq first (codes "latency")) kind.Latency _ _ _ (latency_formed behind) (
    by_kind behind (bytes_eq first (codes "link")) kind.Link _ _ _ (link_formed behind) (
    by_kind behind (bytes_eq first (codes "hop")) kind.Hop _ _ _ (hop_formed behind) (
    left_over_formed first behind)))))))
