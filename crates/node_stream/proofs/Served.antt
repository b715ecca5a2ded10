-- How service ended, put together from the frames that were served and what came next.
use Rattle.std.proofs.Common.{◌≡◌, ◌⊎◌, ℕ, ◌+◌, ◌-◌, ◌^◌, ◌<◌, ◌≤◌, min, List, [], ◌∷◌, ◌++◌, Option, None, Some, length, take, refl, sym, ap, subst, ◌∙◌, append_assoc, append-nil, arith, inl, inr, length-append}
use Rattle.std.specs.Io.KnownBytes.{Appends, Consumes, IsAtEnd}
use Rattle.std.specs.List.{concat}
use Rattle.std.proofs.KnownBytes.{Appends-nil, Appends-trans, Consumes-nil, Consumes-trans}
use Rattle.std.proofs.lemmas.List.Folds.{concat-append}
use Rattle.byte_streams.proofs.Known.{all_known}
use Rattle.byte_streams.specs.Lines.{all_bytes}
use Rattle.node_stream.specs.Advice.{IsAdvice}
use Rattle.node_stream.specs.Blames.{why_of}
use Rattle.node_stream.specs.Layout.{frame_of}
use Rattle.node_stream.specs.Rules.{AreNumbersInRange, HasFault}
use Rattle.node_stream.specs.declared.blame.Blame.{Blame}
use Rattle.node_stream.specs.declared.frame.Frame.TheVariants.{Opens}
use Rattle.script_words.specs.Lines.{line_number}
use Rattle.script_words.specs.declared.fault.LineWhy.{LineWhy}
use Rattle.script_words.specs.declared.fault.LineWhy.TheVariants as why
use Rattle.node_stream.specs.Endings.{IsAdvised, IsBlameOf, IsCut, IsFaulty, IsFirstBad, IsOpening, IsServed, most_at_once, most_bytes}
use Rattle.node_stream.specs.Frames.{IsFrame, IsFront, IsPart, contents_in, kind_in}
use Rattle.node_stream.specs.Serving.{Follows, HasRun, HasServed, Standing, place_if}
use Rattle.node_stream.specs.declared.ending.Ending.{Ending}
use Rattle.node_stream.specs.declared.ending.Ending.TheVariants.{Done, BadFrame, ReadFault, WriteFault, NoMemory, TooLong}
use Rattle.node_stream.proofs.Follows.{opens_or_is_open}

-- ---- one frame more
pub served_more : (st m n : Option Standing) (fs : List (List ℕ)) (f x y : List ℕ) → HasServed st fs m x → Follows m f n y → HasServed st (fs ++ f ∷ []) n (x ++ y)
served_more st m n [] f x y a follows =
    (n, y, [], subst (λ (o : Option Standing). Follows o f n y) a.0 follows, (refl, refl), ap (λ (t : List ℕ). t ++ y) a.1 ∙ sym (append-nil y))
served_more st m n (g ∷ gs) f x y (k, own, rest, also, served, is) follows =
    (k, own, rest ++ y, also, served_more k m n gs f rest y served follows, ap (λ (t : List ℕ). t ++ y) is ∙ append_assoc own rest y)

concat_more : (fs : List (List ℕ)) (f : List ℕ) → concat (fs ++ f ∷ []) ≡ concat fs ++ f
concat_more fs f = concat-append fs (f ∷ []) ∙ ap (λ (t : List ℕ). concat fs ++ t) (append-nil f)

-- where the router is not open, no frame came
still_open : (st n : Option Standing) (fs : List (List ℕ)) (x : List ℕ) → HasServed st fs n x → (st ≡ None → ⊥) → n ≡ None → ⊥
still_open st n [] x a open_ e = open_ (sym a.0 ∙ e)
still_open st n (f ∷ fs) x (k, own, rest, follows, served, is) open_ e = still_open k n fs rest served (opens_or_is_open st f k own follows) e

nothing_served : (st n : Option Standing) (fs : List (List ℕ)) (x : List ℕ) → HasServed st fs n x → n ≡ None → (fs ≡ []) × (x ≡ [])
nothing_served st n [] x a e = (refl, a.1)
nothing_served st n (f ∷ fs) x (k, own, rest, follows, served, is) e = absurd (still_open k n fs rest served (opens_or_is_open st f k own follows) e)

-- ---- all bytes, where none are left
all_at_end : (taken : List ℕ) (left : Option (List ℕ)) → IsAtEnd left → all_bytes taken left ≡ taken
all_at_end taken None e = refl
all_at_end taken (Some xs) e = ap (λ (t : List ℕ). taken ++ t) e ∙ append-nil taken

-- what is left
abbrev rest_of : Option (List ℕ) → List ℕ
rest_of None = []
rest_of (Some xs) = xs

all_with_rest : (taken : List ℕ) (left : Option (List ℕ)) → all_bytes taken left ≡ taken ++ rest_of left
all_with_rest taken None = sym (append-nil taken)
all_with_rest taken (Some xs) = refl

-- ---- the frames before were served, and their answers were written
pub record Progress (old left first holds : Option (List ℕ)) (st : Option Standing) (taken number : ℕ) : Type 0 where
  pub frames : List (List ℕ)
  pub text : List ℕ
  pub took : Consumes old left (concat frames)
  pub wrote : Appends first holds text
  pub served : HasServed None frames st text
  pub counted : taken ≡ length (concat frames)
  pub numbered : number ≡ line_number (length frames)

pub at_start : (a f : Option (List ℕ)) → Progress a a f f None 0 1
at_start a f = record {
  frames = [];
  text = [];
  took = Consumes-nil a;
  wrote = Appends-nil f;
  served = (refl, refl);
  counted = refl;
  numbered = refl;
}

-- memory ran out before any byte was taken
pub ended_at_once : (a f : Option (List ℕ)) → IsServed NoMemory a a f f
ended_at_once a f = record {
  taken = [];
  took = Consumes-nil a;
  text = [];
  wrote = Appends-nil f;
  counted = omega arith;
  ended = (inl refl, refl);
}

module _ (old left first holds : Option (List ℕ)) (st : Option Standing) (taken number : ℕ) (p : Progress old left first holds st taken number) (new : Option (List ℕ)) (frame : List ℕ)
    (got : Consumes left new frame) (now : ℕ) (long : now ≡ taken + length frame) where
  abbrev bytes_taken : List ℕ
  bytes_taken = concat p.frames ++ frame

  took_all : Consumes old new bytes_taken
  took_all = Consumes-trans old left new (concat p.frames) frame p.took got

  as_many : now ≡ length bytes_taken
  as_many = omega (arith, long, p.counted, length-append (concat p.frames) frame)

  abbrev ran : HasRun p.frames p.text
  ran = record { standing = st; served = p.served }

  pub ended_long : most_bytes < now → now ≤ most_bytes + most_at_once → IsFront frame → IsServed TooLong old new first holds
  ended_long many at_once front = record {
    taken = bytes_taken;
    took = took_all;
    text = p.text;
    wrote = p.wrote;
    counted = (omega (arith, many, as_many), omega (arith, at_once, as_many));
    ended = record { before = p.frames; last = frame; taken_is = refl; holds = front; ran = ran };
  }

  module _ (few : now ≤ most_bytes) where
    pub ended_fault : IsPart frame → IsServed ReadFault old new first holds
    ended_fault part = record {
      taken = bytes_taken;
      took = took_all;
      text = p.text;
      wrote = p.wrote;
      counted = omega (arith, few, as_many);
      ended = record { before = p.frames; last = frame; taken_is = refl; holds = part; ran = ran };
    }

    pub ended_done : frame ≡ [] → IsAtEnd new → IsServed Done old new first holds
    ended_done none end =
        let all : bytes_taken ≡ concat p.frames = ap (λ (t : List ℕ). concat p.frames ++ t) none ∙ append-nil (concat p.frames) in
        let whole : all_bytes bytes_taken new ≡ bytes_taken = all_at_end bytes_taken new end in
        record {
          taken = bytes_taken;
          took = took_all;
          text = p.text;
          wrote = p.wrote;
          counted = omega (arith, few, as_many);
          ended = (sym whole, record { frames = p.frames; parts = whole ∙ all; ran = ran });
        }

    -- memory ran out at the frame that opens the router
    pub ended_closed : st ≡ None → IsFrame frame → frame_of (kind_in frame) (contents_in frame) ≡ Some Opens → AreNumbersInRange (contents_in frame) → IsServed NoMemory old new first holds
    ended_closed closed whole reads in_range =
        let none = nothing_served None st p.frames p.text p.served closed in
        let only : bytes_taken ≡ frame = ap (λ (fs : List (List ℕ)). concat fs ++ frame) none.0 in
        record {
          taken = bytes_taken;
          took = took_all;
          text = p.text;
          wrote = p.wrote;
          counted = omega (arith, few, as_many);
          ended = (inr (subst IsOpening (sym only) (record { whole = whole; reads = reads; in_range = in_range })), none.1);
        }

    -- ---- a bad frame
    abbrev first_bad : (y : LineWhy) (n : ℕ) (all after : List ℕ) → n ≡ number → all ≡ bytes_taken ++ after → IsCut frame after y ⊎ IsFaulty st frame y → IsFirstBad n y all p.text
    first_bad y n all after same parts bad = record {
      before = p.frames;
      last = frame;
      after = after;
      parts = parts ∙ append_assoc (concat p.frames) frame after;
      ran = ran;
      bad = bad;
      counted = same ∙ p.numbered;
    }

    ended_bad : (y : LineWhy) (n : ℕ) (after : List ℕ) → n ≡ number → all_bytes bytes_taken new ≡ bytes_taken ++ after → IsCut frame after y ⊎ IsFaulty st frame y
        → IsServed (BadFrame n y) old new first holds
    ended_bad y n after same parts bad = record {
      taken = bytes_taken;
      took = took_all;
      text = p.text;
      wrote = p.wrote;
      counted = omega (arith, few, as_many);
      ended = (first_bad y n (all_bytes bytes_taken new) after same parts bad, refl);
    }

    is_advised : (y : LineWhy) (n : ℕ) (after : List ℕ) → n ≡ number → all_bytes bytes_taken new ≡ bytes_taken ++ after → IsCut frame after y ⊎ IsFaulty st frame y
        → (advice : List ℕ) (b : Blame) → IsBlameOf st frame b → why_of b ≡ y → IsAdvice b advice
        → (bytes : List ℕ) → old ≡ Some bytes → IsAdvised (BadFrame n y) bytes advice
    is_advised y n after same parts bad advice b blamed reason advised bytes known =
        let all = all_known old new bytes bytes_taken known took_all in
        record {
          text = p.text;
          first = first_bad y n bytes after same (sym all.0 ∙ parts) bad;
          on = record { blame = b; blamed = blamed; why_is = reason; advised = advised };
        }

    -- the input ends inside it
    module _ (e : Ending) (n : ℕ) (b : Blame) (is : e ≡ BadFrame n (why_of b)) (same : n ≡ number) (some : 0 < length frame) (part : IsPart frame) (end : IsAtEnd new) (word : why_of b ≡ why.Word) where
      cut : IsCut frame [] (why_of b)
      cut = record { some = some; part = part; ends = refl; why_is = word }

      no_more : all_bytes bytes_taken new ≡ bytes_taken ++ []
      no_more = all_at_end bytes_taken new end ∙ sym (append-nil bytes_taken)

      pub ended_cut : IsServed e old new first holds
      ended_cut = subst (λ (x : Ending). IsServed x old new first holds) (sym is) (ended_bad (why_of b) n [] same no_more (inl cut))

      pub advised_cut : (advice : List ℕ) → IsBlameOf st frame b → IsAdvice b advice → (bytes : List ℕ) → old ≡ Some bytes → IsAdvised e bytes advice
      advised_cut advice blamed advised bytes known =
          subst (λ (x : Ending). IsAdvised x bytes advice) (sym is) (is_advised (why_of b) n [] same no_more (inl cut) advice b blamed refl advised bytes known)

    -- it breaks a rule
    module _ (e : Ending) (n : ℕ) (b : Blame) (is : e ≡ BadFrame n (why_of b)) (same : n ≡ number) (whole : IsFrame frame) (fault : HasFault (place_if st) (kind_in frame) (contents_in frame) (why_of b)) where
      faulty : IsFaulty st frame (why_of b)
      faulty = record { whole = whole; fault = fault }

      pub ended_faulty : IsServed e old new first holds
      ended_faulty = subst (λ (x : Ending). IsServed x old new first holds) (sym is)
          (ended_bad (why_of b) n (rest_of new) same (all_with_rest bytes_taken new) (inr faulty))

      pub advised_faulty : (advice : List ℕ) → IsBlameOf st frame b → IsAdvice b advice → (bytes : List ℕ) → old ≡ Some bytes → IsAdvised e bytes advice
      advised_faulty advice blamed advised bytes known =
          subst (λ (x : Ending). IsAdvised x bytes advice) (sym is)
          (is_advised (why_of b) n (rest_of new) same (all_with_rest bytes_taken new) (inr faulty) advice b blamed refl advised bytes known)

    -- ---- a frame that follows
    module _ (n : Option Standing) (own : List ℕ) (follows : Follows st frame n own) (later : Option (List ℕ)) where
      -- the sink failed
      pub ended_writing : (count : ℕ) → count ≤ length own → Appends holds later (take count own) → IsServed WriteFault old new first later
      ended_writing count front wrote = record {
        taken = bytes_taken;
        took = took_all;
        text = p.text ++ take count own;
        wrote = Appends-trans first holds later p.text (take count own) p.wrote wrote;
        counted = omega (arith, few, as_many);
        ended = record {
          before = p.frames;
          last = frame;
          taken_is = refl;
          said = p.text;
          own = own;
          ran = ran;
          ran_with = record { standing = n; served = served_more None st n p.frames frame p.text own p.served follows };
          count = count;
          front = front;
          text_is = refl;
        };
      }

      -- its answers were written
      pub one_more : (next : ℕ) → next ≡ min (number + 1) (2 ^ 32 - 1) → Appends holds later own → Progress old new first later n now next
      one_more next is wrote =
          let count : length (p.frames ++ frame ∷ []) ≡ length p.frames + 1 = omega (arith, length-append p.frames (frame ∷ [])) in
          record {
            frames = p.frames ++ frame ∷ [];
            text = p.text ++ own;
            took = subst (λ (t : List ℕ). Consumes old new t) (sym (concat_more p.frames frame)) took_all;
            wrote = Appends-trans first holds later p.text own p.wrote wrote;
            served = served_more None st n p.frames frame p.text own p.served follows;
            counted = as_many ∙ ap (λ (t : List ℕ). length t) (sym (concat_more p.frames frame));
            numbered = omega (arith, is, p.numbered, count);
          }
