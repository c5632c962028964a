-- The answers to operations are of their kinds, and what is drawn is a name.
use Rattle.std.specs.Fmt.{decimal, digits, digits_onto, digit_glyph}
use Rattle.std.specs.List.{list_all}
use Rattle.std.proofs.Common.{◌≡◌, ◌+◌, ◌/◌, ◌%◌, ◌<◌, ◌^◌, ◌∷◌, ℕ, zero, suc, Bool, true, false, cond, eqb, List, [], get_or, refl, sym, ap, subst, arith}
use Rattle.std.proofs.lemmas.Bool.Decides.{nat_tests}
use Rattle.rtc_wire_text.specs.Tokens.{is_token_byte}
use Rattle.rtc_peer_core.proofs.Alls.{all_token}
use Rattle.rtc_sdp_values.specs.declared.ice_creds.IceCreds.{IceCreds}
use Rattle.rtc_peer_core.specs.Calls.{staged_mid}
use Rattle.rtc_peer_core.specs.Creds.{drawn_creds, hex_digits, lower_hex_digit}
use Rattle.rtc_peer_core.specs.Meanings.{Meanings}
use Rattle.rtc_peer_core.specs.Names.{drawn_mid, free_mid}
use Rattle.rtc_peer_core.specs.declared.peer.Peer.{Peer}
use Rattle.rtc_run_history.specs.declared.op.Op.{Op}
use Rattle.rtc_run_history.specs.declared.op.Op.TheVariants.{AddMedia, SetDirection, StopMedia, AddChannel, IceRestart}
use Rattle.rtc_run_history.specs.declared.op_answer.OpAnswer.{OpAnswer}
use Rattle.rtc_run_history.specs.declared.op_answer.OpAnswer.TheVariants.{Mid, Changed, NoLine, Channel, Creds, BadChannel as NoChannel, Alloc as OpAlloc}
use Rattle.rtc_run_history.specs.Performs.{PerformsOps}
use Rattle.rtc_script_reports.specs.Fits.{AnswersMore, AnswersOps, IsDrawnName}

-- ---- names

glyph_token : (n : ℕ) → is_token_byte (digit_glyph false (n % 10)) ≡ true
glyph_token n = let small : n % 10 < 10 = omega arith in grind (arith, nat_tests)

onto_token : (count n : ℕ) (bytes : List ℕ) → list_all is_token_byte bytes ≡ true → list_all is_token_byte (digits_onto count 10 false n bytes) ≡ true
onto_token zero n bytes h = h
onto_token (suc count) n bytes h =
    let more : list_all is_token_byte (digit_glyph false (n % 10) ∷ bytes) ≡ true = rw (glyph_token n) h in
    either (eqb (n / 10) 0) _ _ more (onto_token count (n / 10) (digit_glyph false (n % 10) ∷ bytes) more)
  where
    either : (b : Bool) (xs ys : List ℕ) → list_all is_token_byte xs ≡ true → list_all is_token_byte ys ≡ true → list_all is_token_byte (cond b xs ys) ≡ true
    either true xs ys p q = p
    either false xs ys p q = q

decimal_token : (n : ℕ) → list_all is_token_byte (decimal n) ≡ true
unfolding digits
decimal_token n = onto_token 64 n [] refl

hex_token : (count n : ℕ) → list_all is_token_byte (hex_digits count n) ≡ true
hex_token zero n = refl
hex_token (suc count) n = all_token (hex_digits count (n / 16)) (lower_hex_digit (n % 16) ∷ []) (hex_token count (n / 16)) (one (n % 16) (omega arith))
  where
    one : (d : ℕ) → d < 16 → list_all is_token_byte (lower_hex_digit d ∷ []) ≡ true
    one d small = grind (arith, nat_tests)

-- the first letter is not that of the word for running out of memory
behind_letter : (letter : ℕ) (text : List ℕ) → is_token_byte letter ≡ true → (letter ≡ 110 → ⊥) → list_all is_token_byte text ≡ true → IsDrawnName (letter ∷ text)
behind_letter letter text byte other is = (rw byte is, λ e. other (ap (λ (t : List ℕ). get_or t 0 0) e))

mid_name : (n : ℕ) → IsDrawnName (drawn_mid n)
mid_name n = behind_letter 109 (decimal n) refl (λ e. omega (arith, e)) (decimal_token n)

free_name : (held : List ℕ → Bool) (tries n : ℕ) → IsDrawnName (free_mid held tries n)
unfolding free_mid
free_name held zero n = mid_name n
free_name held (suc tries) n = either (held (drawn_mid n)) _ _ (free_name held tries ((n + 1) % 2 ^ 32)) (mid_name n)
  where
    either : (b : Bool) (xs ys : List ℕ) → IsDrawnName xs → IsDrawnName ys → IsDrawnName (cond b xs ys)
    either true xs ys p q = p
    either false xs ys p q = q

creds_name : (n : ℕ) → IsDrawnName (drawn_creds n).ufrag
unfolding drawn_creds
creds_name n = behind_letter 117 (hex_digits 16 n) refl (λ e. omega (arith, e)) (hex_token 16 n)

-- ---- operations

module _ {I D S M E X T W N : Type 0} (m : Meanings I D S M E X T W N) where
  staged_name : (p : Peer I D S M N) (mid : List ℕ) → mid ≡ staged_mid m p → IsDrawnName mid
  staged_name p mid is = subst (λ (text : List ℕ). IsDrawnName text) (sym is) (free_name _ _ _)

  -- the answers behind the first
  ops_more : (p : Peer I D S M N) (ops : List Op) (answers : List OpAnswer) (q : Peer I D S M N) → PerformsOps m p ops answers q → AnswersMore ops answers
  ops_more p [] [] q h = tt
  ops_more p (AddMedia kind dir ∷ ops) (Mid mid ∷ answers) q h = (staged_name p mid h.1.0, ops_more h.0 ops answers q h.2)
  ops_more p (AddMedia kind dir ∷ ops) (OpAlloc ∷ []) q h = (tt, tt)
  ops_more p (SetDirection place dir ∷ ops) (NoLine ∷ answers) q h = (tt, ops_more p ops answers q h.1)
  ops_more p (SetDirection place dir ∷ ops) (Changed changed ∷ answers) q h = (tt, ops_more h.0 ops answers q h.2)
  ops_more p (SetDirection place dir ∷ ops) (OpAlloc ∷ []) q h = (tt, tt)
  ops_more p (StopMedia place ∷ ops) (NoLine ∷ answers) q h = (tt, ops_more p ops answers q h.1)
  ops_more p (StopMedia place ∷ ops) (Changed changed ∷ answers) q h = (tt, ops_more h.0 ops answers q h.2)
  ops_more p (StopMedia place ∷ ops) (OpAlloc ∷ []) q h = (tt, tt)
  ops_more p (AddChannel config ∷ ops) (Channel id ∷ answers) q h = (tt, ops_more h.0 ops answers q h.2)
  ops_more p (AddChannel config ∷ ops) (NoChannel ∷ answers) q h = (tt, ops_more h.0 ops answers q h.2)
  ops_more p (AddChannel config ∷ ops) (OpAlloc ∷ []) q h = (tt, tt)
  ops_more p (IceRestart keep ∷ ops) (Creds creds ∷ answers) q h =
      (subst (λ (c : IceCreds). IsDrawnName c.ufrag) (sym h.1.0) (creds_name _), ops_more h.0 ops answers q h.2)
  ops_more p (IceRestart keep ∷ ops) (OpAlloc ∷ []) q h = (tt, tt)
  ops_more p ops answers q h = absurd h

  -- all answers
  pub ops_answered : (p : Peer I D S M N) (ops : List Op) (answers : List OpAnswer) (q : Peer I D S M N) → PerformsOps m p ops answers q → AnswersOps ops answers
  ops_answered p [] [] q h = tt
  ops_answered p [] (answer ∷ answers) q h = absurd h
  ops_answered p (op ∷ ops) (answer ∷ answers) q h = ops_more p (op ∷ ops) (answer ∷ answers) q h
  ops_answered p (AddMedia kind dir ∷ ops) [] q h = absurd h
  ops_answered p (SetDirection place dir ∷ ops) [] q h = absurd h
  ops_answered p (StopMedia place ∷ ops) [] q h = absurd h
  ops_answered p (AddChannel config ∷ ops) [] q h = absurd h
  ops_answered p (IceRestart keep ∷ ops) [] q h = absurd h
