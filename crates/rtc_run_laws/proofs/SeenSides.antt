-- What a side knows of the other one is what the past tells of it, as long as no acceptance was broken off.
use Rattle.std.proofs.Common.{◌≡◌, ◌&&◌, ◌||◌, ℕ, Bool, true, false, not, List, ◌∷◌, Option, Some, None, refl, sym, ◌∙◌, ap, cond}
use Rattle.std.specs.Prelude.{is_some, option_map}
use Rattle.std.specs.Option.{option_or}
use Rattle.std.proofs.lemmas.Bool.{and_parts}
use Rattle.rtc_parts.specs.IceMeaning.{IceSettings}
use Rattle.rtc_sctp_values.specs.InitChunk.{chunk_text, chunk_of_text}
use Rattle.rtc_sctp_values.specs.InitHalves.{InitHalves, remote_text}
use Rattle.rtc_sctp_values.specs.SnapHalves.{KeptHalves, text_in}
use Rattle.rtc_sdp_values.specs.Sdp.{creds_of, sdp_sctp_init}
use Rattle.rtc_sdp_values.specs.declared.fingerprint.Fingerprint.{Fingerprint}
use Rattle.rtc_sdp_values.specs.declared.ice_creds.IceCreds.{IceCreds}
use Rattle.rtc_sdp_values.specs.declared.line_row.LineRow.{LineRow}
use Rattle.rtc_sdp_values.specs.declared.sdp.Sdp.{Sdp}
use Rattle.rtc_change.specs.Plans.{no_fingerprint}
use Rattle.rtc_peer_core.specs.SdpHalves.{told_chunk, joined_by}
use Rattle.rtc_peer_core.specs.Stance.{Stance, kept_init, held_by}
use Rattle.rtc_peer_core.proofs.StanceTaken.{Breaks, Joins, begun_by}
use Rattle.rtc_run_history.specs.Answers.{has_app_row}
use Rattle.rtc_run_history.specs.Signalled.{sdp_read, foreign}
use Rattle.rtc_run_history.specs.declared.side.Side.{Side}
use Rattle.rtc_run_history.specs.declared.step.Step.{Step}
use Rattle.rtc_run_history.specs.declared.step.Step.TheVariants.{Negotiate, AcceptOffer, AcceptAnswer, Time, Datagram, Poll, Drain, Write, CloseChannel, Close, Rollback, ForeignOffer, ForeignAnswer, Raw}
use Rattle.rtc_run_history.specs.declared.outcome.Outcome.{Outcome}
use Rattle.rtc_run_history.specs.declared.outcome.Outcome.TheVariants.{Negotiated, Answered, Finished, Done, Wrote, Polled, Refused, NoSuch, Alloc}
use Rattle.rtc_run_history.specs.Sides.{same_side, side_of}
use Rattle.rtc_run_history.specs.Past.{Entry, before, remote_sdp}
use Rattle.rtc_run_history.specs.Views.{Stances, accepted_by, last_accepted, breaks_off, is_firm, creds_told, leaves_app, is_inited, init_said, init_in, init_brought, init_kept, view_in}

-- What a side knows of the other one, whether it is lite, and how its association was started, by what a past tells.
pub record SideSees {E : Type 0} (fresh : Stances) (past : List (Entry E)) (at : Side) (s : Stance) : Type 0 where
  pub lite : s.ice.lite ≡ (fresh at).ice.lite
  pub remote : is_firm at past ≡ true → s.ice.remote ≡ creds_told (last_accepted at past)
  pub known : is_firm at past ≡ true → is_some s.fingerprint ≡ is_some (last_accepted at past)
  pub inited : s.inited ≡ is_inited at past
  pub kept : kept_init s.snap ≡ init_kept at past

-- what this reads of a side
abbrev pub side_parts : Stance → IceSettings × Option Fingerprint × Bool × KeptHalves
side_parts s = (s.ice, s.fingerprint, s.inited, s.snap)

-- it stays, but for the halves that are pending for a start by session descriptions
pub record KeepsSide (p q : Stance) : Type 0 where
  pub ice : q.ice ≡ p.ice
  pub fingerprint : q.fingerprint ≡ p.fingerprint
  pub inited : q.inited ≡ p.inited
  pub started : q.snap.started ≡ p.snap.started

pub keeps_by : (p q : Stance) → side_parts q ≡ side_parts p → KeepsSide p q
keeps_by p q same = record {
  ice = ap (λ (c : IceSettings × Option Fingerprint × Bool × KeptHalves). c.0) same;
  fingerprint = ap (λ (c : IceSettings × Option Fingerprint × Bool × KeptHalves). c.1) same;
  inited = ap (λ (c : IceSettings × Option Fingerprint × Bool × KeptHalves). c.2) same;
  started = ap (λ (c : IceSettings × Option Fingerprint × Bool × KeptHalves). c.3.started) same;
}

pub keeps_trans : (p r q : Stance) → KeepsSide p r → KeepsSide r q → KeepsSide p q
keeps_trans p r q first rest = record {
  ice = rest.ice ∙ first.ice;
  fingerprint = rest.fingerprint ∙ first.fingerprint;
  inited = rest.inited ∙ first.inited;
  started = rest.started ∙ first.started;
}

-- what a side judges by is what it holds
pub view_is : {E : Type 0} → (fresh : Stances) (past : List (Entry E)) (at : Side) (s : Stance) → s.lines ≡ before at past → SideSees fresh past at s → view_in fresh at past (held_by s) ≡ held_by s
view_is fresh past at s lines sees = by (is_firm at past) refl
  where
    same : (rows : List LineRow) (lite lite' : Bool) (creds : Option IceCreds) (has inited : Bool) (kept : Option (List ℕ)) → s.lines ≡ rows → s.ice.lite ≡ lite → s.ice.remote ≡ creds
        → is_some s.fingerprint ≡ has → s.inited ≡ inited → kept_init s.snap ≡ kept
        → record { lines = rows; lite = lite; remote_creds = creds; has_fingerprint = has; sctp_inited = inited; sctp_kept = kept } ≡ held_by s
    same rows lite lite' creds has inited kept rows_are lite_is creds_are has_is inited_is kept_is =
        rw (← rows_are) (rw (← lite_is) (rw (← creds_are) (rw (← has_is) (rw (← inited_is) (rw (← kept_is) refl)))))

    by : (firm : Bool) → is_firm at past ≡ firm → view_in fresh at past (held_by s) ≡ held_by s
    by true is = rw is (same (before at past) (fresh at).ice.lite (fresh at).ice.lite (creds_told (last_accepted at past)) (is_some (last_accepted at past)) (is_inited at past) (init_kept at past) lines sees.lite (sees.remote is) (sees.known is) sees.inited sees.kept)
    by false is = rw is (same (before at past) (fresh at).ice.lite (fresh at).ice.lite s.ice.remote (is_some s.fingerprint) (is_inited at past) (init_kept at past) lines sees.lite refl refl sees.inited sees.kept)

-- ---- an entry that has a side accept nothing

firm_before : {E : Type 0} → (past : List (Entry E)) (e : Entry E) (at : Side) → is_firm at (e ∷ past) ≡ true → is_firm at past ≡ true
firm_before past e at firm = (and_parts (not (breaks_off at e.step e.outcome)) (is_firm at past) firm).1

-- an entry that has a side accept nothing neither starts its association nor has it keep a chunk
inited_still : {E : Type 0} → (past : List (Entry E)) (e : Entry E) (at : Side) → accepted_by at e.step e.outcome past ≡ None → is_inited at past ≡ is_inited at (e ∷ past)
inited_still past e at none = sym (ap (λ found. (is_some found && has_app_row (before at (e ∷ past))) || is_inited at past) none)

kept_still : {E : Type 0} → (past : List (Entry E)) (e : Entry E) (at : Side) → accepted_by at e.step e.outcome past ≡ None → init_kept at past ≡ init_kept at (e ∷ past)
kept_still past e at none =
    sym (ap (λ found. cond ((is_some found && has_app_row (before at (e ∷ past))) && not (is_inited at past)) (init_brought at e.step past) (init_kept at past)) none)

pub sees_still : {E : Type 0} → (fresh : Stances) (past : List (Entry E)) (e : Entry E) (at : Side) (s t : Stance) → KeepsSide s t → accepted_by at e.step e.outcome past ≡ None
    → SideSees fresh past at s → SideSees fresh (e ∷ past) at t
sees_still fresh past e at s t keeps none sees = record {
  lite = ap (λ i. i.lite) keeps.ice ∙ sees.lite;
  remote = λ firm. ap (λ i. i.remote) keeps.ice ∙ sees.remote (firm_before past e at firm) ∙ ap (λ found. creds_told (option_or found (last_accepted at past))) (sym none);
  known = λ firm. ap is_some keeps.fingerprint ∙ sees.known (firm_before past e at firm) ∙ ap (λ found. is_some (option_or found (last_accepted at past))) (sym none);
  inited = keeps.inited ∙ sees.inited ∙ inited_still past e at none;
  kept = ap (text_in remote_text) keeps.started ∙ sees.kept ∙ kept_still past e at none;
}

pub broken_start : (s t : Stance) (restart : Option (IceCreds × Bool)) (counter : ℕ) → Breaks s restart counter t → (t.inited ≡ s.inited) × (t.snap ≡ s.snap)
broken_start s t restart counter breaks = (ap (λ (x : Stance). x.inited) breaks.rest, ap (λ (x : Stance). x.snap) breaks.rest)

-- an acceptance that was broken off tells no more, and starts nothing
pub sees_broken : {E : Type 0} → (fresh : Stances) (past : List (Entry E)) (e : Entry E) (at : Side) (s t : Stance) → t.ice.lite ≡ s.ice.lite → (t.inited ≡ s.inited) × (t.snap ≡ s.snap)
    → breaks_off at e.step e.outcome ≡ true → accepted_by at e.step e.outcome past ≡ None → SideSees fresh past at s → SideSees fresh (e ∷ past) at t
sees_broken fresh past e at s t lite same breaks none sees = record {
  lite = lite ∙ sees.lite;
  remote = λ firm. absurd (let none : false ≡ true = rw breaks at firm in cc);
  known = λ firm. absurd (let none : false ≡ true = rw breaks at firm in cc);
  inited = same.0 ∙ sees.inited ∙ inited_still past e at none;
  kept = ap kept_init same.1 ∙ sees.kept ∙ kept_still past e at none;
}

-- ---- an entry that has a side accept a session description

-- What is kept of starts by session descriptions once one is accepted, after which there is, or is not, a line of data channels.
kept_begun : (has inited drops : Bool) (halves : Option InitHalves) (snap : KeptHalves) (brought : Option (List ℕ))
    → (inited ≡ false → text_in remote_text halves ≡ brought)
    → kept_init (begun_by (has && not inited) halves drops snap) ≡ cond (has && not inited) brought (kept_init snap)
kept_begun true false drops halves snap brought told = told refl
kept_begun true true true halves snap brought told = refl
kept_begun true true false halves snap brought told = refl
kept_begun false inited true halves snap brought told = refl
kept_begun false inited false halves snap brought told = refl

-- the text of the chunk of a start is that which the session description tells
joined_text : (s : Stance) (half : List ℕ) (may : Bool) (told : Option (List ℕ)) → text_in remote_text (joined_by s half (told_chunk false may told)) ≡ cond may (init_said told) None
joined_text s half false told = refl
joined_text s half true None = refl
joined_text s half true (Some text) = by (chunk_of_text text)
  where
    by : (chunk : Option (List ℕ)) → text_in remote_text (joined_by s half chunk) ≡ option_map chunk_text chunk
    by None = refl
    by (Some chunk) = refl

pub brought_by : (s : Stance) (may may' : Bool) (sdp : Sdp) (halves : Option InitHalves) → Joins s may sdp halves → may ≡ may' → s.inited ≡ false
    → text_in remote_text halves ≡ init_in may' (Some sdp)
brought_by s may may' sdp halves joins same fresh =
    ap (text_in remote_text) joins.joined
    ∙ ap (λ inited. text_in remote_text (joined_by s joins.half (told_chunk inited may (sdp_sctp_init sdp)))) fresh
    ∙ joined_text s joins.half may (sdp_sctp_init sdp) ∙ ap (λ b. cond b (init_said (sdp_sctp_init sdp)) None) same

inited_next : (inited has : Bool) → (inited || has) ≡ (has || inited)
inited_next true true = refl
inited_next true false = refl
inited_next false true = refl
inited_next false false = refl

-- what a side has of an accepted session description, by the rows that it leaves
pub record HasAccepted (s t : Stance) (sdp : Sdp) (has : Bool) (brought : Option (List ℕ)) : Type 0 where
  pub lite : t.ice.lite ≡ s.ice.lite
  pub remote : t.ice.remote ≡ creds_of sdp
  pub known : is_some t.fingerprint ≡ true
  pub inited : t.inited ≡ (s.inited || has)
  pub halves : Option InitHalves
  pub drops : Bool
  pub snap : t.snap ≡ begun_by (has && not s.inited) halves drops s.snap
  pub brings : s.inited ≡ false → text_in remote_text halves ≡ brought

-- a session description that is accepted tells credentials, and a fingerprint is known from then on; the first one that leaves a line of
-- data channels starts the association
pub sees_accepted : {E : Type 0} → (fresh : Stances) (past : List (Entry E)) (e : Entry E) (at : Side) (s t : Stance) (sdp : Sdp) (has : Bool) → HasAccepted s t sdp has (init_brought at e.step past)
    → accepted_by at e.step e.outcome past ≡ Some sdp → has_app_row (before at (e ∷ past)) ≡ has → SideSees fresh past at s → SideSees fresh (e ∷ past) at t
sees_accepted fresh past e at s t sdp has it is left sees =
    let leaves : has ≡ leaves_app at e past = sym (ap (λ found. is_some found && has_app_row (before at (e ∷ past))) is ∙ left) in
    record {
      lite = it.lite ∙ sees.lite;
      remote = λ firm. it.remote ∙ ap (λ found. creds_told (option_or found (last_accepted at past))) (sym is);
      known = λ firm. it.known ∙ ap (λ found. is_some (option_or found (last_accepted at past))) (sym is);
      inited = it.inited ∙ inited_next s.inited has ∙ ap (λ b. has || b) sees.inited ∙ ap (λ b. b || is_inited at past) leaves;
      kept = ap kept_init it.snap ∙ kept_begun has s.inited it.drops it.halves s.snap (init_brought at e.step past) it.brings
          ∙ ap (λ b. cond (has && not b) (init_brought at e.step past) (kept_init s.snap)) sees.inited
          ∙ ap (λ kept. cond (has && not (is_inited at past)) (init_brought at e.step past) kept) sees.kept
          ∙ ap (λ b. cond (b && not (is_inited at past)) (init_brought at e.step past) (init_kept at past)) leaves;
    }

-- where a session description is not refused for it, a fingerprint is known afterwards
pub known_after : (known told : Option Fingerprint) → no_fingerprint (is_some known) told ≡ None → is_some (option_or known told) ≡ true
known_after (Some fingerprint) told none = refl
known_after None (Some fingerprint) none = refl
known_after None None none = absurd (cc)

-- ---- each kind of step

-- the side that does not act
pub other_sees : {E : Type 0} → (fresh : Stances) (past : List (Entry E)) (e : Entry E) (at : Side) (s t : Stance) → same_side (side_of e.step) at ≡ false → t ≡ s → SideSees fresh past at s → SideSees fresh (e ∷ past) at t
other_sees {E} fresh past e at s t another same sees = sees_still fresh past e at s t (keeps_by s t (ap side_parts same)) (by e.step e.outcome another) sees
  where
    none_there : (sdp : Option Sdp) (b : Bool) → b ≡ false → cond b sdp None ≡ None
    none_there sdp b is = rw is refl

    by : (step : Step) (outcome : Outcome E) → same_side (side_of step) at ≡ false → accepted_by at step outcome past ≡ None
    by (AcceptOffer side k) (Answered n) another = none_there (sdp_read (remote_sdp true at k past)) (same_side side at) another
    by (AcceptAnswer side t a) Finished another = none_there (sdp_read (remote_sdp false at a past)) (same_side side at) another
    by (ForeignOffer side text) (Answered n) another = none_there (sdp_read (foreign text)) (same_side side at) another
    by (ForeignAnswer side t text) Finished another = none_there (sdp_read (foreign text)) (same_side side at) another
    by (Negotiate side ops apply) outcome another = refl
    by (AcceptOffer side k) (Negotiated answers what) another = refl
    by (AcceptOffer side k) Finished another = refl
    by (AcceptOffer side k) Done another = refl
    by (AcceptOffer side k) (Wrote taken) another = refl
    by (AcceptOffer side k) (Polled outputs end) another = refl
    by (AcceptOffer side k) (Refused error) another = refl
    by (AcceptOffer side k) NoSuch another = refl
    by (AcceptOffer side k) Alloc another = refl
    by (AcceptAnswer side t a) (Negotiated answers what) another = refl
    by (AcceptAnswer side t a) (Answered n) another = refl
    by (AcceptAnswer side t a) Done another = refl
    by (AcceptAnswer side t a) (Wrote taken) another = refl
    by (AcceptAnswer side t a) (Polled outputs end) another = refl
    by (AcceptAnswer side t a) (Refused error) another = refl
    by (AcceptAnswer side t a) NoSuch another = refl
    by (AcceptAnswer side t a) Alloc another = refl
    by (Time side now) outcome another = refl
    by (Datagram side packet now) outcome another = refl
    by (Poll side) outcome another = refl
    by (Drain side) outcome another = refl
    by (Write side channel binary bytes) outcome another = refl
    by (CloseChannel side channel) outcome another = refl
    by (Close side) outcome another = refl
    by (ForeignOffer side text) (Negotiated answers what) another = refl
    by (ForeignOffer side text) Finished another = refl
    by (ForeignOffer side text) Done another = refl
    by (ForeignOffer side text) (Wrote taken) another = refl
    by (ForeignOffer side text) (Polled outputs end) another = refl
    by (ForeignOffer side text) (Refused error) another = refl
    by (ForeignOffer side text) NoSuch another = refl
    by (ForeignOffer side text) Alloc another = refl
    by (ForeignAnswer side t text) (Negotiated answers what) another = refl
    by (ForeignAnswer side t text) (Answered n) another = refl
    by (ForeignAnswer side t text) Done another = refl
    by (ForeignAnswer side t text) (Wrote taken) another = refl
    by (ForeignAnswer side t text) (Polled outputs end) another = refl
    by (ForeignAnswer side t text) (Refused error) another = refl
    by (ForeignAnswer side t text) NoSuch another = refl
    by (ForeignAnswer side t text) Alloc another = refl
    by (Rollback side t) outcome another = refl
    by (Raw side bytes now) outcome another = refl
