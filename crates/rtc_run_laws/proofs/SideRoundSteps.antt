-- What is outstanding in a round goes on with an offer that is made, its acceptance, and the acceptance of the answer.
use Rattle.std.proofs.Common.{◌≡◌, ◌≢◌, ◌&&◌, ◌||◌, not, ℕ, Bool, true, false, List, [], ◌∷◌, ◌++◌, map, length, Option, Some, None, refl, sym, ◌∙◌, ap, subst, cond}
use Rattle.std.specs.Prelude.{is_some, slice_get, IfSome, Ok}
use Rattle.rtc_sctp_values.specs.InitHalves.{InitHalves, local_text}
use Rattle.rtc_sctp_values.specs.SnapHalves.{KeptHalves, text_in}
use Rattle.rtc_sdp_values.specs.Sdp.{creds_of, sdp_sctp_init}
use Rattle.rtc_sdp_values.specs.declared.line_row.LineRow.{LineRow}
use Rattle.rtc_sdp_values.specs.declared.ice_creds.IceCreds.{IceCreds}
use Rattle.rtc_sdp_values.specs.declared.sdp.Sdp.{Sdp}
use Rattle.rtc_peer_rows.specs.ParsedLines.{parsed_lines}
use Rattle.rtc_peer_rows.specs.Table.{app_of}
use Rattle.rtc_change.specs.PendingOffer.{PendingOffer, added_rows, contains_add_app, staged_restart}
use Rattle.rtc_change.specs.TableAfter.{table_after}
use Rattle.rtc_change.specs.Plans.{is_restart}
use Rattle.rtc_peer_core.specs.MadeSdp.{creds_in_use, row_told, offer_head, offered_told, answer_head, answered_told, offer_sdp, answer_sdp}
use Rattle.rtc_peer_core.specs.Stance.{Stance}
use Rattle.rtc_peer_core.specs.SdpHalves.{tells_half, offer_init, offered_snap, told_chunk, joined_by, answer_init}
use Rattle.rtc_peer_core.proofs.StanceCalls.{StanceApplies}
use Rattle.rtc_peer_core.proofs.StanceTaken.{StandsOffer, StandsAnswer, begun_by}
use Rattle.rtc_peer_core.proofs.ToldRows.{rows_of_offered, rows_of_answered}
use Rattle.rtc_run_history.specs.declared.side.Side.{Side}
use Rattle.rtc_run_history.specs.declared.side.Side.TheVariants.{Left, Right}
use Rattle.rtc_run_history.specs.declared.kept.Kept.{Kept}
use Rattle.rtc_run_history.specs.Sides.{other_side}
use Rattle.rtc_run_history.specs.Answers.{has_app_row}
use Rattle.rtc_run_history.specs.Orderly.{AreCurrent, AreJoined}
use Rattle.rtc_run_history.specs.Performs.{kept_offer, kept_answer}
use Rattle.rtc_run_history.proofs.BothSides.{both_sides}
use Rattle.rtc_sdp_writer.specs.AsRead.{as_read}
use Rattle.rtc_run_laws.proofs.AsReadSdps.{creds_as_read, init_as_read}
use Rattle.rtc_run_laws.proofs.StanceSteps.{PairStance, lent}
use Rattle.rtc_run_laws.proofs.PastOffers.{stays_there, next_there}
use Rattle.rtc_run_laws.proofs.SideRounds.{TellsSide, head_told, known_creds, IsOfferOut, IsAnswerOut, AreAgreed, AreJoinedAt}
use Rattle.rtc_run_laws.proofs.StartedSides.{IsStartTold, lent_told}
use Rattle.rtc_run_laws.proofs.StartHalves.{rows_init, app_in_front, begun_none, begun_with, never_twice, IsPendingTold, TellsHalf, offer_tells, AnswersPending, AnswersHalf, joined_answer, joined_end, none_end, joined_sym}

pub other_twice : (at : Side) → other_side (other_side at) ≡ at
other_twice Left = refl
other_twice Right = refl

-- the agents of both sides stay
abbrev pub SameIce : PairStance → PairStance → Type 0
SameIce old new = (side : Side) → (new.sides side).ice ≡ (old.sides side).ice

-- ---- an offer is made

offer_tells_side : (p : Stance) (made : Sdp × PendingOffer) (q : Stance) → StanceApplies p (Ok (Some made)) q → length made.0.lines ≢ 0 → TellsSide made.0 (creds_in_use (staged_restart made.1.changes) q.ice) q.ice.lite
unfolding offer_sdp
offer_tells_side p made q h some =
    let told : TellsSide made.0 (creds_in_use (staged_restart p.staged) p.ice) p.ice.lite = head_told made.0 (offer_head p (offer_init p h.half)) (offered_told p) h.offered some in
    let changes : made.1.changes ≡ p.staged = ap (λ (token : PendingOffer). token.changes) h.token in
    let ice : q.ice ≡ p.ice = ap (λ (s : Stance). s.ice) h.rest in
    rw (changes, ice) told

-- the half of a start that it tells is pending at its side
offer_half : (p q : Stance) (made : Sdp × PendingOffer) → StanceApplies p (Ok (Some made)) q → IsStartTold p → TellsHalf q.inited q.snap (sdp_sctp_init made.0)
unfolding offer_sdp
offer_half p q made h told =
    let has : Bool = has_app_row (map row_told (offered_told p)) in
    let init : sdp_sctp_init made.0 ≡ cond has (offer_init p h.half) None =
    ap sdp_sctp_init h.offered ∙ rows_init (offer_head p (offer_init p h.half)) (offered_told p) in
    let inited : q.inited ≡ p.inited = ap (λ (s : Stance). s.inited) h.rest in
    let snap : q.snap ≡ offered_snap p h.half = ap (λ (s : Stance). s.snap) h.rest in
    rw (inited, snap, init) (offer_tells p.inited (tells_half p) has p h.half
    (λ is. (
      ap (λ b. not b && (p.snap.enabled && (is_some (app_of p.lines) || contains_add_app p.staged))) is,
      ap has_app_row (rows_of_offered p) ∙ app_in_front p.lines (added_rows (length p.lines) p.staged) (sym told.inited ∙ is),
    )) told.unstarted h.reads told.reads)

-- the start of each association stays
abbrev SameStarts : PairStance → PairStance → Type 0
SameStarts old new = (side : Side) → (new.sides side).snap.started ≡ (old.sides side).snap.started

pub offered_round : (old new : PairStance) (at : Side) (n : ℕ) (p : Stance) (made : Sdp × PendingOffer) → SameIce old new → SameStarts old new → StanceApplies p (Ok (Some made)) (new.sides at) → new.sdps ≡ old.sdps ++ kept_offer at made ∷ []
    → n ≡ length old.sdps → length made.0.lines ≢ 0 → IsStartTold p → AreAgreed old → IsOfferOut at n new
offered_round old new at n p made same starts h pushed count some told agreed = record {
  offer = record {
    kept = kept_offer at made;
    token = made.1;
    there = ap (λ sdps. slice_get sdps n) pushed ∙ next_there old.sdps (kept_offer at made) n count;
    mine = refl;
    has = refl;
    says = ap (λ (token : PendingOffer). token.says_init) h.token;
    half = offer_half p (new.sides at) made h told;
    tells = offer_tells_side p made (new.sides at) h some;
  };
  current = λ side. let same_side = same side in let same_other = same (other_side side) in rw (same_side, same_other) (agreed.current side);
  joined = λ side. let same_side = starts side in let same_other = starts (other_side side) in rw (same_side, same_other) (agreed.joined side);
}

-- ---- the other side accepts it

no_restart : (found : Option (IceCreds × Bool)) → is_some found ≡ false → found ≡ None
no_restart None none = refl
no_restart (Some restart) none = absurd (cc)

-- an offer that restarts nothing has the credentials of its side
creds_kept : (restart : Option (IceCreds × Bool)) (s : Stance) → is_some restart ≡ false → creds_in_use restart s.ice ≡ s.ice.local
creds_kept None s none = refl
creds_kept (Some restart) s none = absurd (cc)

answer_tells_side : (s : Stance) (offer answer : Sdp) (t : Stance) → StandsOffer s offer answer t → length answer.lines ≢ 0 → TellsSide answer t.ice.local t.ice.lite
unfolding answer_sdp
answer_tells_side s offer answer t h some =
    let told : TellsSide answer (creds_in_use h.restart s.ice) s.ice.lite = head_told answer (answer_head s h.restart (answer_init s.inited s.snap h.halves) offer) (answered_told s h.told offer) h.answered some in
    let local : t.ice.local ≡ creds_in_use h.restart s.ice = ap (λ (q : Stance). q.ice.local) h.rest in
    let lite : t.ice.lite ≡ s.ice.lite = ap (λ (q : Stance). q.ice.lite) h.rest in
    rw (local, lite) told

-- what the side that offered knows stays current where its offer restarts nothing
current_answered : (s t : Stance) (offer answer : Sdp) (mine : IceCreds) (known : Option IceCreds) → StandsOffer s offer answer t → creds_of offer ≡ Some mine → IfSome s.ice.remote (λ k. k ≡ mine) → IfSome known (λ k. k ≡ s.ice.local)
    → IfSome known (λ k. k ≡ t.ice.local)
current_answered s t offer answer mine known h creds theirs current =
    let still : is_restart s.ice.remote (creds_of offer) ≡ false = rw creds (known_creds s.ice.remote mine theirs) in
    let none : h.restart ≡ None = no_restart h.restart (h.followed.there ∙ still) in
    let local : t.ice.local ≡ s.ice.local = ap (λ (q : Stance). q.ice.local) h.rest ∙ ap (λ restart. creds_in_use restart s.ice) none in
    rw local current

-- whether rows that an answer tells have a line of data channels, and what it then tells of a start
answer_init_told : (s : Stance) (offer answer : Sdp) (t : Stance) (h : StandsOffer s offer answer t)
    → sdp_sctp_init answer ≡ cond (has_app_row (table_after s.lines (parsed_lines offer) true)) (answer_init s.inited s.snap h.halves) None
unfolding answer_sdp
answer_init_told s offer answer t h =
    ap sdp_sctp_init h.answered ∙ rows_init (answer_head s h.restart (answer_init s.inited s.snap h.halves) offer) (answered_told s h.told offer)
    ∙ ap (λ (rows : List LineRow). cond (has_app_row rows) (answer_init s.inited s.snap h.halves) None) (rows_of_answered s h.told offer)

-- The side that answers has the half that was told, and tells its own, where its association is started by both.
answer_half : (mine s t : Stance) (offer answer : Sdp) (says : Bool) (told : Option (List ℕ)) → StandsOffer s offer answer t → sdp_sctp_init offer ≡ told → s.inited ≡ mine.inited
    → IsStartTold s → IsStartTold t → TellsHalf mine.inited mine.snap told → AreJoined mine.snap.started s.snap.started → says ≡ is_some told
    → AnswersHalf mine.inited mine.snap t.snap.started says (sdp_sctp_init answer)
answer_half mine s t offer answer says told h init same start start' tells joined said = by mine.inited refl
  where
    has : Bool
    has = has_app_row (table_after s.lines (parsed_lines offer) true)

    snap : t.snap ≡ begun_by (has && not s.inited) h.halves false s.snap
    snap = ap (λ (x : Stance). x.snap) h.rest

    text : sdp_sctp_init answer ≡ cond has (answer_init s.inited s.snap h.halves) None
    text = answer_init_told s offer answer t h

    pended : (found : Bool) → has ≡ found → s.inited ≡ false → IsPendingTold mine.snap.pending told → AnswersPending mine.snap.pending t.snap.started says (sdp_sctp_init answer)
    pended false is fresh pending =
        let none : t.snap.started ≡ None =
        ap (λ (k : KeptHalves). k.started) snap ∙ begun_none has s.inited false h.halves s.snap (ap (λ b. b && not s.inited) is) ∙ start.unstarted fresh in
        rw none (text ∙ ap (λ b. cond b (answer_init s.inited s.snap h.halves) None) is)
    pended true is fresh pending =
        let halves : h.halves ≡ joined_by s h.joins.half (told_chunk false true told) =
        h.joins.joined ∙ ap (λ b. joined_by s h.joins.half (told_chunk b true (sdp_sctp_init offer))) fresh ∙ ap (λ one. joined_by s h.joins.half (told_chunk false true one)) init in
        let started : t.snap.started ≡ joined_by s h.joins.half (told_chunk false true told) =
        ap (λ (k : KeptHalves). k.started) snap ∙ begun_with (has && not s.inited) false h.halves s.snap (ap (λ b. b && not s.inited) is ∙ ap not fresh) ∙ halves in
        let tells_own : sdp_sctp_init answer ≡ text_in local_text (joined_by s h.joins.half (told_chunk false true told)) =
        text ∙ ap (λ b. cond b (answer_init s.inited s.snap h.halves) None) is ∙ ap (λ b. answer_init b s.snap h.halves) fresh ∙ ap (text_in local_text) halves in
        rw (started, tells_own) (joined_answer mine.snap.pending s h.joins.half told says pending h.joins.reads start.reads said)

    by : (inited : Bool) → mine.inited ≡ inited → AnswersHalf mine.inited mine.snap t.snap.started says (sdp_sctp_init answer)
    by false is =
        let pending : IsPendingTold mine.snap.pending told = rw is at tells in
        rw is (pended has refl (same ∙ is) pending)
    by true is =
        let begun : s.inited ≡ true = same ∙ is in
        let kept : t.snap.started ≡ s.snap.started = ap (λ (k : KeptHalves). k.started) snap ∙ begun_none has s.inited false h.halves s.snap (never_twice has s.inited begun) in
        let line : has ≡ true = ap has_app_row (sym (ap (λ (x : Stance). x.lines) h.rest)) ∙ sym start'.inited ∙ ap (λ (x : Stance). x.inited) h.rest ∙ ap (λ b. b || has) begun in
        let own : sdp_sctp_init answer ≡ text_in local_text s.snap.started =
        text ∙ ap (λ b. cond b (answer_init s.inited s.snap h.halves) None) line ∙ ap (λ b. answer_init b s.snap h.halves) begun in
        rw (is, kept, own) (joined, refl)

pub accepted_round : (old new : PairStance) (at : Side) (n m : ℕ) (answer : Sdp) (out : IsOfferOut at n old) → StandsOffer (lent (old.sides (other_side at))) (as_read out.offer.kept.sdp) answer (new.sides (other_side at))
    → new.sides at ≡ old.sides at → new.sdps ≡ old.sdps ++ kept_answer (other_side at) answer ∷ [] → m ≡ length old.sdps → length answer.lines ≢ 0
    → IsStartTold (old.sides (other_side at)) → IsStartTold (new.sides (other_side at)) → (old.sides (other_side at)).inited ≡ (old.sides at).inited → IsAnswerOut at n m new
accepted_round old new at n m answer out h same pushed count some start start' alike =
    let kept : Kept = out.offer.kept in
    let told : TellsSide kept.sdp (creds_in_use (staged_restart out.offer.token.changes) (new.sides at).ice) (new.sides at).ice.lite = rw same out.offer.tells in
    record {
      offer = record {
        kept = kept;
        token = out.offer.token;
        there = ap (λ sdps. slice_get sdps n) pushed ∙ stays_there old.sdps (kept_answer (other_side at) answer ∷ []) n kept out.offer.there;
        mine = out.offer.mine;
        has = out.offer.has;
        says = out.offer.says;
        half = rw same out.offer.half;
        tells = told;
      };
      answer = kept_answer (other_side at) answer;
      there = ap (λ sdps. slice_get sdps m) pushed ∙ next_there old.sdps (kept_answer (other_side at) answer) m count;
      tells = answer_tells_side (lent (old.sides (other_side at))) (as_read kept.sdp) answer (new.sides (other_side at)) h some;
      taken = ap (λ (q : Stance). q.ice.remote) h.rest ∙ creds_as_read kept.sdp;
      known = λ none.
          let mine : creds_of (as_read kept.sdp) ≡ Some (old.sides at).ice.local = creds_as_read kept.sdp ∙ out.offer.tells.creds_are ∙ ap Some (creds_kept (staged_restart out.offer.token.changes) (old.sides at) none) in
          let theirs : IfSome (old.sides (other_side at)).ice.remote (λ k. k ≡ (old.sides at).ice.local) =
          subst (λ (side : Side). IfSome (old.sides (other_side at)).ice.remote (λ k. k ≡ (old.sides side).ice.local)) (other_twice at) (out.current (other_side at)) in
          rw same (current_answered (lent (old.sides (other_side at))) (new.sides (other_side at)) (as_read kept.sdp) answer (old.sides at).ice.local (old.sides at).ice.remote h mine theirs (out.current at));
      half = rw same (answer_half (old.sides at) (lent (old.sides (other_side at))) (new.sides (other_side at)) (as_read kept.sdp) answer out.offer.token.says_init (sdp_sctp_init kept.sdp) h
          (init_as_read kept.sdp) alike (lent_told (old.sides (other_side at)) start) start' out.offer.half (out.joined at) out.offer.says);
    }

-- ---- the side that offered accepts the answer

-- it keeps the half of the other side where it told its own
ended_half : (s t theirs : Stance) (token : PendingOffer) (answer : Sdp) (told : Option (List ℕ)) → StandsAnswer s token answer t → sdp_sctp_init answer ≡ told → IsStartTold s → IsStartTold t → IsStartTold theirs
    → t.inited ≡ theirs.inited → AnswersHalf s.inited s.snap theirs.snap.started token.says_init told → AreJoined t.snap.started theirs.snap.started
ended_half s t theirs token answer told h init start start' theirs_start alike half = by s.inited refl
  where
    has : Bool
    has = has_app_row (table_after s.lines (parsed_lines answer) false)

    snap : t.snap ≡ begun_by (has && not s.inited) h.halves true s.snap
    snap = ap (λ (x : Stance). x.snap) h.rest

    inited : t.inited ≡ (s.inited || has)
    inited = ap (λ (x : Stance). x.inited) h.rest

    -- a start that is kept is of an association that is started
    begun : (found : Bool) → theirs.inited ≡ found → (halves : InitHalves) → theirs.snap.started ≡ Some halves → theirs.inited ≡ true
    begun true is halves there = is
    begun false is halves there = absurd (let e : None ≡ Some halves = sym (theirs_start.unstarted is) ∙ there in cc)

    pended : s.inited ≡ false → (found : Option InitHalves) → theirs.snap.started ≡ found → AnswersPending s.snap.pending found token.says_init told → AreJoined t.snap.started found
    pended fresh None there tells =
        let halves : h.halves ≡ None =
        h.joins.joined ∙ ap (λ b. joined_by s h.joins.half (told_chunk b token.says_init (sdp_sctp_init answer))) fresh
        ∙ none_end s h.joins.half token.says_init (sdp_sctp_init answer) (init ∙ tells) in
        let none : t.snap.started ≡ None = ap (λ (k : KeptHalves). k.started) snap ∙ nothing (has && not s.inited) h.halves halves (start.unstarted fresh) in
        rw none tt
      where
        nothing : (needed : Bool) (halves : Option InitHalves) → halves ≡ None → s.snap.started ≡ None → (begun_by needed halves true s.snap).started ≡ None
        nothing true halves none unstarted = none
        nothing false halves none unstarted = unstarted
    pended fresh (Some halves) there tells =
        let line : has ≡ true = sym (ap (λ b. b || has) fresh) ∙ sym inited ∙ alike ∙ begun theirs.inited refl halves there in
        let started : t.snap.started ≡ joined_by s h.joins.half (told_chunk false token.says_init told) =
        ap (λ (k : KeptHalves). k.started) snap ∙ begun_with (has && not s.inited) true h.halves s.snap (ap (λ b. b && not s.inited) line ∙ ap not fresh) ∙ h.joins.joined
        ∙ ap (λ b. joined_by s h.joins.half (told_chunk b token.says_init (sdp_sctp_init answer))) fresh
        ∙ ap (λ one. joined_by s h.joins.half (told_chunk false token.says_init one)) init in
        rw started (joined_end s h.joins.half halves token.says_init told tells.0 tells.1 tells.2)

    by : (was : Bool) → s.inited ≡ was → AreJoined t.snap.started theirs.snap.started
    by false is =
        let pending : AnswersPending s.snap.pending theirs.snap.started token.says_init told = rw is at half in
        pended is theirs.snap.started refl pending
    by true is =
        let both : AreJoined s.snap.started theirs.snap.started × (told ≡ text_in local_text theirs.snap.started) = rw is at half in
        let kept : t.snap.started ≡ s.snap.started = ap (λ (k : KeptHalves). k.started) snap ∙ begun_none has s.inited true h.halves s.snap (never_twice has s.inited is) in
        rw kept both.0

ended_current : (old new : PairStance) (at : Side) (n a : ℕ) (out : IsAnswerOut at n a old) → StandsAnswer (lent (old.sides at)) out.offer.token (as_read out.answer.sdp) (new.sides at)
    → new.sides (other_side at) ≡ old.sides (other_side at) → (side : Side) → AreCurrent new.sides side
ended_current old new at n a out h same =
    both_sides (AreCurrent new.sides) at
    (let remote : (new.sides at).ice.remote ≡ Some (new.sides (other_side at)).ice.local =
    ap (λ (q : Stance). q.ice.remote) h.rest ∙ creds_as_read out.answer.sdp ∙ out.tells.creds_are ∙ ap (λ (q : Stance). Some q.ice.local) (sym same) in
    rw remote refl)
    (let remote : (new.sides (other_side at)).ice.remote ≡ Some (creds_in_use (staged_restart out.offer.token.changes) (old.sides at).ice) =
    ap (λ (q : Stance). q.ice.remote) same ∙ out.taken ∙ out.offer.tells.creds_are in
    let local : (new.sides at).ice.local ≡ creds_in_use (staged_restart out.offer.token.changes) (old.sides at).ice = ap (λ (q : Stance). q.ice.local) h.rest in
    rw (remote, other_twice at) (sym local))

pub ended_round : (old new : PairStance) (at : Side) (n a : ℕ) (out : IsAnswerOut at n a old) → StandsAnswer (lent (old.sides at)) out.offer.token (as_read out.answer.sdp) (new.sides at)
    → new.sides (other_side at) ≡ old.sides (other_side at) → IsStartTold (old.sides at) → ((side : Side) → IsStartTold (new.sides side)) → (new.sides at).inited ≡ (new.sides (other_side at)).inited
    → AreAgreed new
ended_round old new at n a out h same start start' alike =
    let half : AnswersHalf (old.sides at).inited (old.sides at).snap (new.sides (other_side at)).snap.started out.offer.token.says_init (sdp_sctp_init out.answer.sdp) = rw same out.half in
    let joined : AreJoinedAt new at =
    ended_half (lent (old.sides at)) (new.sides at) (new.sides (other_side at)) out.offer.token (as_read out.answer.sdp) (sdp_sctp_init out.answer.sdp) h (init_as_read out.answer.sdp)
    (lent_told (old.sides at) start) (start' at) (start' (other_side at)) alike half in
    record {
      current = ended_current old new at n a out h same;
      joined = both_sides (AreJoinedAt new) at joined
          (subst (λ (side : Side). AreJoined (new.sides (other_side at)).snap.started (new.sides side).snap.started) (sym (other_twice at))
          (joined_sym (new.sides at).snap.started (new.sides (other_side at)).snap.started joined));
    }
