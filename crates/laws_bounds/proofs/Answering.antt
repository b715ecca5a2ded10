-- What a node makes of where a message came, and of messages that are not spelt.
use Rattle.std.specs.Prelude.{◌≡◌, ◌⊎◌, ℕ, cond, Option, Some, None, option_and_then, refl}
use Rattle.std.proofs.Common.{sym, ap, ◌∙◌, inl, inr, ⊎_elim}
use Rattle.rsvp_base.specs.declared.addr.Addr.{Addr}
use Rattle.rsvp_base.specs.declared.hop.Hop.{Hop}
use Rattle.rsvp_base.specs.declared.session.Session.{Session}
use Rattle.rsvp_base.specs.declared.style.StyleKind.{StyleKind}
use Rattle.router_rules.specs.RsvpMessages.declared.fault.MsgErr.{MsgErr}
use Rattle.router_rules.specs.RsvpMessages.declared.message.Kind.{Kind}
use Rattle.router_rules.specs.RsvpMessages.declared.message.Kind.TheVariants as kind
use Rattle.router_rules.specs.Act.{act_spelt}
use Rattle.router_rules.specs.Errors.{PathFrom, ResvFrom, addressee, fault_code, replied, reply, reply_to, with_errors}
use Rattle.router_rules.specs.Inputs.{ErrSend}
use Rattle.router_rules.specs.NodeConfig.{NodeConfig, is_addr, own}
use Rattle.laws_bounds.proofs.Lists.{passed, some_same}
use Rattle.laws_bounds.proofs.Tests.{addr_told, addr_tested}
use Rattle.laws_bounds.specs.ErrorLaws.{ArrivalsByAddress, FaultsByHint, IsPathReply, IsResvReply, path_reply, resv_reply}

pub arrivals_by_address : ArrivalsByAddress
arrivals_by_address =
    record { not_mine = λ p c e dst m f no_. ap (λ b. act_spelt p c e m b f) no_; mine = λ p c e dst m f yes. ap (λ b. act_spelt p c e m b f) yes; unspelt = λ p c e dst m f. refl }

-- the reply, by the parts of the hint
module _ (p : NodeConfig) (e : ℕ) (dst : Addr) (m : MsgErr) where
  abbrev reply_by : Option Kind → Option Session → Option Hop → Option StyleKind → Option ErrSend
  reply_by kd ss hh st = option_and_then (λ k. option_and_then (λ a. option_and_then (λ code. reply p e dst code a) (fault_code k m.fault)) (addressee k ss hh st m.hint.sender)) kd

  replied_by : (kd : Option Kind) (ss : Option Session) (hh : Option Hop) (st : Option StyleKind) → m.kind ≡ kd → m.hint.session ≡ ss → m.hint.hop ≡ hh → m.hint.style ≡ st
      → reply_to p e dst m ≡ reply_by kd ss hh st
  replied_by kd ss hh st a b c d = λ i. reply_by (a i) (b i) (c i) (d i)

  -- to a Path's hop, and to a Resv's
  path_told : (s : Session) (h : Hop) (st : Option StyleKind) (code : Option (ℕ × ℕ)) (out : ErrSend) → m.kind ≡ Some kind.Path → m.hint.session ≡ Some s → m.hint.hop ≡ Some h → m.hint.style ≡ st
      → fault_code kind.Path m.fault ≡ code
      → option_and_then (λ c. reply p e dst c (PathFrom s h m.hint.sender)) code ≡ Some out → IsPathReply p e dst m out
  path_told s h st None out a b c d f t = absurd (cc)
  path_told s h st (Some code) out a b c d f t =
      let q = passed (is_addr dst s.group) _ out t in
      record {
        session = s;
        hop = h;
        code = code;
        of_kind = a;
        of = b;
        by = c;
        told = f;
        mine = addr_told dst s.group q.0;
        is = sym (some_same _ _ q.1);
      }

  resv_told : (s : Session) (h : Hop) (st : StyleKind) (code : Option (ℕ × ℕ)) (out : ErrSend) → m.kind ≡ Some kind.Resv → m.hint.session ≡ Some s → m.hint.hop ≡ Some h → m.hint.style ≡ Some st
      → fault_code kind.Resv m.fault ≡ code
      → option_and_then (λ c. reply p e dst c (ResvFrom s h st)) code ≡ Some out → IsResvReply p e dst m out
  resv_told s h st None out a b c d f t = absurd (cc)
  resv_told s h st (Some code) out a b c d f t =
      let q = passed (is_addr dst (own p e)) _ out t in
      record {
        session = s;
        hop = h;
        style = st;
        code = code;
        of_kind = a;
        of = b;
        by = c;
        in_style = d;
        told = f;
        mine = addr_told dst (own p e) q.0;
        is = sym (some_same _ _ q.1);
      }

  told_by : (kd : Option Kind) (ss : Option Session) (hh : Option Hop) (st : Option StyleKind) (out : ErrSend) → m.kind ≡ kd → m.hint.session ≡ ss → m.hint.hop ≡ hh → m.hint.style ≡ st
      → reply_by kd ss hh st ≡ Some out
      → IsPathReply p e dst m out ⊎ IsResvReply p e dst m out
  told_by None ss hh st out a b c d t = absurd (cc)
  told_by (Some kind.Path) None hh st out a b c d t = absurd (cc)
  told_by (Some kind.Path) (Some s) None st out a b c d t = absurd (cc)
  told_by (Some kind.Path) (Some s) (Some h) st out a b c d t = inl (path_told s h st (fault_code kind.Path m.fault) out a b c d refl t)
  told_by (Some kind.Resv) None hh st out a b c d t = absurd (cc)
  told_by (Some kind.Resv) (Some s) None st out a b c d t = absurd (cc)
  told_by (Some kind.Resv) (Some s) (Some h) None out a b c d t = absurd (cc)
  told_by (Some kind.Resv) (Some s) (Some h) (Some st) out a b c d t = inr (resv_told s h st (fault_code kind.Resv m.fault) out a b c d refl t)
  told_by (Some kind.PathErr) ss hh st out a b c d t = absurd (cc)
  told_by (Some kind.ResvErr) ss hh st out a b c d t = absurd (cc)
  told_by (Some kind.PathTear) ss hh st out a b c d t = absurd (cc)
  told_by (Some kind.ResvTear) ss hh st out a b c d t = absurd (cc)
  told_by (Some kind.ResvConf) ss hh st out a b c d t = absurd (cc)

  path_made : (out : ErrSend) → IsPathReply p e dst m out → reply_to p e dst m ≡ Some out
  path_made out q =
      replied_by (Some kind.Path) (Some q.session) (Some q.hop) m.hint.style q.of_kind q.of q.by refl
      ∙ ap (option_and_then (λ c. reply p e dst c (PathFrom q.session q.hop m.hint.sender))) q.told
      ∙ ap (λ b. cond b (Some (path_reply p e q.code q.session q.hop m.hint.sender)) None) (addr_tested dst q.session.group q.mine) ∙ ap Some (sym q.is)

  resv_made : (out : ErrSend) → IsResvReply p e dst m out → reply_to p e dst m ≡ Some out
  resv_made out q =
      replied_by (Some kind.Resv) (Some q.session) (Some q.hop) (Some q.style) q.of_kind q.of q.by q.in_style
      ∙ ap (option_and_then (λ c. reply p e dst c (ResvFrom q.session q.hop q.style))) q.told
      ∙ ap (λ b. cond b (Some (resv_reply p e q.code q.session q.hop q.style)) None) (addr_tested dst (own p e) q.mine) ∙ ap Some (sym q.is)

pub faults_by_hint : FaultsByHint
faults_by_hint =
    record {
      reply = λ p e dst m s. (
        told_by p e dst m m.kind m.hint.session m.hint.hop m.hint.style s refl refl refl refl,
        λ q. ⊎_elim (λ (a : IsPathReply p e dst m s). path_made p e dst m s a) (λ (a : IsResvReply p e dst m s). resv_made p e dst m s a) q,
      );
      told = λ p e dst m f s h. ap (λ w. with_errors f (replied w)) h;
      dropped = λ p e dst m f h. ap (λ w. with_errors f (replied w)) h;
    }
