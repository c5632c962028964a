-- At most one token of a side is right, and while it is, the rows of the side stay as its offer left them where its ops set and stop no line.
use Rattle.rtc_parts.specs.declared.dtls_error.DtlsError.TheVariants.{Fault}
use Rattle.std.proofs.Common.{◌≡◌, ℕ, Bool, true, false, not, List, [], ◌∷◌, length, Option, Some, None, refl, sym, ◌∙◌, ap, subst, ◌⊎◌, inl, inr}
use Rattle.std.specs.Prelude.{slice_get}
use Rattle.std.proofs.lemmas.Bool.{eq-eqb, both_ways, or_parts, and_parts}
use Rattle.rtc_sdp_values.specs.declared.line_row.LineRow.{LineRow}
use Rattle.rtc_change.specs.Held.{Asked}
use Rattle.rtc_peer_core.specs.declared.rtc_error.RtcError.TheVariants.{RemoteSdp, Sdp as SdpRefused, ChangesOutOfOrder, Alloc as PeerAlloc, Dtls, Sctp, Glare}
use Rattle.rtc_run_history.specs.Signalled.{Signalled, NotMade, Unreadable, Readable, foreign}
use Rattle.rtc_run_history.specs.declared.side.Side.{Side}
use Rattle.rtc_run_history.specs.declared.step.Step.{Step}
use Rattle.rtc_run_history.specs.declared.step.Step.TheVariants.{Negotiate, AcceptOffer, AcceptAnswer, Time, Datagram, Poll, Drain, Write, CloseChannel, Close, Rollback, ForeignOffer, ForeignAnswer, Raw}
use Rattle.rtc_run_history.specs.declared.outcome.Outcome.{Outcome}
use Rattle.rtc_run_history.specs.declared.outcome.Outcome.TheVariants.{Negotiated, Answered, Finished, Done, Refused, NoSuch, Alloc}
use Rattle.rtc_run_history.specs.declared.table.Table.{Table}
use Rattle.rtc_run_history.specs.Sides.{same_side, side_of}
use Rattle.rtc_run_history.specs.Past.{Entry, MadeSdp, new_app, before, rows_or, sdps, remote_sdp, is_offer_of, holds_token, is_spent, spends, was_called, supersedes, was_rolled_back, is_right, moves}
use Rattle.rtc_run_history.specs.Sound.{RepliesToOffer, RepliesToAnswer, RepliesToRollback, IsSound, asked_in, at_first, is_glare_at}
use Rattle.rtc_run_history.specs.Undone.{table_shown, table_undone}
use Rattle.rtc_run_history.specs.Rounds.{makes_offer, sets_lines, has_set, rows_at_offer}
use Rattle.rtc_run_laws.proofs.SoundPasts.{IsSoundIn, Sound}
use Rattle.rtc_run_laws.proofs.Tells.{same_side-self, same_side-true}
use Rattle.rtc_run_laws.proofs.OpRows.{unset_rows}
use Rattle.rtc_run_laws.proofs.Takings.{offer_taking, answer_taking, foreign_offer_taking, foreign_answer_taking, rollback_taking}
use Rattle.rtc_run_laws.proofs.PastOffers.{offer_entry, right_parts, right_within, within_there, text_next, maker_side}
use Rattle.rtc_run_history.specs.Views.{Stances, view_in}
use Rattle.rtc_peer_core.specs.Stance.{held_by}

-- a step of a side that made an offer moved the side
made_here : {E : Type 0} → (fresh : Stances) (past : List (Entry E)) (entry : Entry E) (at : Side) (t : ℕ) → IsSoundIn fresh past entry → makes_offer t entry ≡ true → is_offer_of at (slice_get (sdps (entry ∷ past)) t) ≡ true
    → moves at entry.step entry.outcome ≡ true
made_here fresh past entry at t sound makes_it mine =
    let it = offer_entry fresh past entry t sound makes_it in
    let here : side_of entry.step ≡ at = maker_side at it.sdp _ (side_of entry.step) (text_next past entry _ t it.one it.count) mine in
    subst (λ (side : Side). moves side entry.step entry.outcome ≡ true) here it.moved

-- Two tokens of a side that are right are one.
one_right : {E : Type 0} → (fresh : Stances) (past : List (Entry E)) (at : Side) (t u : ℕ) → Sound fresh past → is_right at t past ≡ true → is_right at u past ≡ true
    → is_offer_of at (slice_get (sdps past) t) ≡ true → is_offer_of at (slice_get (sdps past) u) ≡ true → t ≡ u
one_right fresh [] at t u sound right right' mine mine' = absurd (cc)
one_right fresh (entry ∷ past) at t u sound right right' mine mine' =
    by (λ right right' mine mine'. one_right fresh past at t u sound.1 right right' mine mine') (within t) (within u) (makes_offer t entry) (makes_offer u entry) refl refl
  where
    within : (k : ℕ) → is_right at k past ≡ true → is_offer_of at (slice_get (sdps (entry ∷ past)) k) ≡ true → is_offer_of at (slice_get (sdps past) k) ≡ true
    within k right mine = ap (is_offer_of at) (sym (within_there (sdps past) entry.made k (right_within fresh at k past sound.1 right))) ∙ mine

    by : (is_right at t past ≡ true → is_right at u past ≡ true → is_offer_of at (slice_get (sdps past) t) ≡ true → is_offer_of at (slice_get (sdps past) u) ≡ true → t ≡ u)
        → (is_right at t past ≡ true → is_offer_of at (slice_get (sdps (entry ∷ past)) t) ≡ true → is_offer_of at (slice_get (sdps past) t) ≡ true)
        → (is_right at u past ≡ true → is_offer_of at (slice_get (sdps (entry ∷ past)) u) ≡ true → is_offer_of at (slice_get (sdps past) u) ≡ true)
        → (made made' : Bool) → makes_offer t entry ≡ made → makes_offer u entry ≡ made' → t ≡ u
    by earlier within_t within_u true true is is' = (offer_entry fresh past entry t sound.0 is).count ∙ sym (offer_entry fresh past entry u sound.0 is').count
    by earlier within_t within_u true false is is' = absurd (both_ways _ (right_parts at u past entry is' right').0 (made_here fresh past entry at t sound.0 is mine))
    by earlier within_t within_u false true is is' = absurd (both_ways _ (right_parts at t past entry is right).0 (made_here fresh past entry at u sound.0 is' mine'))
    by earlier within_t within_u false false is is' =
        let before_it = (right_parts at t past entry is right).1 in
        let before_it' = (right_parts at u past entry is' right').1 in
        earlier before_it before_it' (within_t before_it mine) (within_u before_it' mine')

-- ---- rows

-- an offer that supersedes none of a peer left its rows
uncalled_rows : {E : Type 0} → (fresh between : Stances) (past : List (Entry E)) (at : Side) (glare : Bool) (sdp : Signalled) (next : ℕ) (outcome : Outcome E) (after : List LineRow)
    → RepliesToOffer glare sdp (view_in fresh at past (held_by (between at))) next outcome after → supersedes outcome ≡ false → after ≡ before at past
uncalled_rows fresh between past at true NotMade next NoSuch after takes uncalled = takes
uncalled_rows fresh between past at false NotMade next NoSuch after takes uncalled = takes
uncalled_rows fresh between past at true (Unreadable line) next (Refused error) after takes uncalled = takes.1
uncalled_rows fresh between past at false (Unreadable line) next (Refused error) after takes uncalled = takes.1
uncalled_rows fresh between past at false (Readable sdp) next (Answered k) after takes uncalled = absurd (cc)
uncalled_rows fresh between past at false (Readable sdp) next (Refused (RemoteSdp why)) after takes uncalled = takes.1
uncalled_rows fresh between past at false (Readable sdp) next (Refused (SdpRefused error)) after takes uncalled = takes.1
uncalled_rows fresh between past at false (Readable sdp) next (Refused (Dtls Fault)) after takes uncalled = takes.1
uncalled_rows fresh between past at false (Readable sdp) next (Refused (Sctp error)) after takes uncalled = takes.2
uncalled_rows fresh between past at false (Readable sdp) next (Refused PeerAlloc) after takes uncalled = takes
uncalled_rows fresh between past at true (Readable sdp) next (Refused Glare) after takes uncalled = takes
uncalled_rows fresh between past at glare sdp next outcome after takes uncalled = absurd takes

-- an answer left the rows of a peer, or it was delivered with a token that was held and right
answer_rows : {E : Type 0} → (fresh between : Stances) (past : List (Entry E)) (at : Side) (held right : Bool) (asked : Asked) (sdp : Signalled) (outcome : Outcome E) (after : List LineRow)
    → RepliesToAnswer held right asked sdp (view_in fresh at past (held_by (between at))) outcome after → (after ≡ before at past) ⊎ ((was_called outcome ≡ true) × (held ≡ true) × (right ≡ true))
answer_rows fresh between past at false right asked sdp NoSuch after takes = inl takes
answer_rows fresh between past at true right asked NotMade NoSuch after takes = inl takes
answer_rows fresh between past at true right asked (Unreadable line) (Refused error) after takes = inl takes.1
answer_rows fresh between past at true false asked (Readable sdp) (Refused ChangesOutOfOrder) after takes = inl takes
answer_rows fresh between past at true true asked (Readable sdp) Finished after takes = inr (refl, refl, refl)
answer_rows fresh between past at true true asked (Readable sdp) (Refused (RemoteSdp why)) after takes = inl takes.1
answer_rows fresh between past at true true asked (Readable sdp) (Refused (SdpRefused error)) after takes = inl takes.1
answer_rows fresh between past at true true asked (Readable sdp) (Refused (Dtls Fault)) after takes = inl takes.1
answer_rows fresh between past at true true asked (Readable sdp) (Refused (Sctp error)) after takes = inl takes.2
answer_rows fresh between past at true true asked (Readable sdp) (Refused PeerAlloc) after takes = inl takes
answer_rows fresh between past at held right asked sdp outcome after takes = absurd takes

-- a rollback left the table of a side, or its token was held and right
rolled_rows : {E : Type 0} → (held right : Bool) (earlier undone : Table) (outcome : Outcome E) (table : Table) → RepliesToRollback held right earlier undone outcome table
    → (table ≡ earlier) ⊎ ((was_rolled_back outcome ≡ true) × (held ≡ true) × (right ≡ true))
rolled_rows false right earlier undone NoSuch table replied = inl replied
rolled_rows true false earlier undone (Refused ChangesOutOfOrder) table replied = inl replied
rolled_rows true true earlier undone Done table replied = inr (refl, refl, refl)
rolled_rows held right earlier undone outcome table replied = absurd replied

-- a step of a side whose token is right, that moves nothing and does not spend it, leaves the rows
stayed : {E : Type 0} → (fresh between : Stances) (past : List (Entry E)) (step : Step) (outcome : Outcome E) (table : Option Table) (made : List MadeSdp) (t : ℕ) → Sound fresh past → IsSound fresh past between step outcome table made
    → is_right (side_of step) t past ≡ true → is_offer_of (side_of step) (slice_get (sdps past) t) ≡ true → moves (side_of step) step outcome ≡ false → spends t step outcome ≡ false
    → sets_lines (side_of step) step ≡ false → rows_or true table (before (side_of step) past) ≡ before (side_of step) past
stayed fresh between past step Alloc None made t sound replied right mine still unspent unset = refl
stayed fresh between past (Negotiate at ops apply) (Negotiated answers what) (Some table) made t sound replied right mine still unspent unset =
    unset_rows (at_first (between at) at past (new_app table.lines made)) ops answers table.lines replied.0 (rw (← unset) (rw (same_side-self at) refl))
stayed fresh between past (AcceptOffer at offer) outcome (Some table) made t sound replied right mine still unspent unset =
    uncalled_rows fresh between past at (is_glare_at fresh at past) (remote_sdp true at offer past) (length (sdps past)) outcome table.lines (offer_taking fresh between past at offer outcome table made replied) (rw (← still) (rw (same_side-self at) refl))
stayed fresh between past (AcceptAnswer at u answer) outcome (Some table) made t sound replied right mine still unspent unset =
    elim (answer_rows fresh between past at (holds_token at u past) (is_right at u past) (asked_in at u past) (remote_sdp false at answer past) outcome table.lines (answer_taking fresh between past at u answer outcome table made replied)) [
      | inl same ↦ same
      | inr taken ↦ absurd (
          let held = and_parts (is_offer_of at (slice_get (sdps past) u)) (not (is_spent u past)) taken.1 in
          let one : u ≡ t = one_right fresh past at u t sound taken.2 right held.0 mine in
          both_ways (spends t (AcceptAnswer at u answer) outcome) unspent (rw (taken.0, eq-eqb u t one) refl))
    ]
stayed fresh between past (Time at now) outcome (Some table) made t sound replied right mine still unspent unset = replied.1
stayed fresh between past (Datagram at packet now) outcome (Some table) made t sound replied right mine still unspent unset = replied.1
stayed fresh between past (Poll at) outcome (Some table) made t sound replied right mine still unspent unset = replied.1
stayed fresh between past (Drain at) outcome (Some table) made t sound replied right mine still unspent unset = replied.1
stayed fresh between past (Write at channel binary bytes) outcome (Some table) made t sound replied right mine still unspent unset = replied.1
stayed fresh between past (CloseChannel at channel) outcome (Some table) made t sound replied right mine still unspent unset = replied.1
stayed fresh between past (Close at) outcome (Some table) made t sound replied right mine still unspent unset = replied.1
stayed fresh between past (Raw at bytes now) outcome (Some table) made t sound replied right mine still unspent unset = replied.1
stayed fresh between past (Rollback at u) outcome (Some table) made t sound replied right mine still unspent unset =
    elim (rolled_rows (holds_token at u past) (is_right at u past) (table_shown at past) (table_undone at u past) outcome table (rollback_taking fresh between past at u outcome table made replied)) [
      | inl same ↦ ap (λ (shown : Table). shown.lines) same
      | inr taken ↦ absurd (
          let held = and_parts (is_offer_of at (slice_get (sdps past) u)) (not (is_spent u past)) taken.1 in
          let one : u ≡ t = one_right fresh past at u t sound taken.2 right held.0 mine in
          both_ways (spends t (Rollback at u) outcome) unspent (rw (taken.0, eq-eqb u t one) refl))
    ]
stayed fresh between past (ForeignOffer at text) outcome (Some table) made t sound replied right mine still unspent unset =
    uncalled_rows fresh between past at (is_glare_at fresh at past) (foreign text) (length (sdps past)) outcome table.lines (foreign_offer_taking fresh between past at text outcome table made replied) (rw (← still) (rw (same_side-self at) refl))
stayed fresh between past (ForeignAnswer at u text) outcome (Some table) made t sound replied right mine still unspent unset =
    elim (answer_rows fresh between past at (holds_token at u past) (is_right at u past) (asked_in at u past) (foreign text) outcome table.lines (foreign_answer_taking fresh between past at u text outcome table made replied)) [
      | inl same ↦ same
      | inr taken ↦ absurd (
          let held = and_parts (is_offer_of at (slice_get (sdps past) u)) (not (is_spent u past)) taken.1 in
          let one : u ≡ t = one_right fresh past at u t sound taken.2 right held.0 mine in
          both_ways (spends t (ForeignAnswer at u text) outcome) unspent (rw (taken.0, eq-eqb u t one) refl))
    ]
stayed fresh between past step outcome table made t sound replied right mine still unspent unset = absurd replied

-- the same of a step of either side
rows_stay : {E : Type 0} → (fresh : Stances) (past : List (Entry E)) (entry : Entry E) (at : Side) (t : ℕ) → Sound fresh (entry ∷ past) → is_right at t past ≡ true → is_offer_of at (slice_get (sdps past) t) ≡ true
    → moves at entry.step entry.outcome ≡ false → spends t entry.step entry.outcome ≡ false → sets_lines at entry.step ≡ false → before at (entry ∷ past) ≡ before at past
rows_stay fresh past entry at t sound right mine still unspent unset = by (same_side (side_of entry.step) at) refl
  where
    by : (here : Bool) → same_side (side_of entry.step) at ≡ here → rows_or here entry.table (before at past) ≡ before at past
    by true is =
        subst (λ (side : Side). is_right side t past ≡ true → is_offer_of side (slice_get (sdps past) t) ≡ true → moves side entry.step entry.outcome ≡ false
        → sets_lines side entry.step ≡ false → rows_or true entry.table (before side past) ≡ before side past)
        (same_side-true (side_of entry.step) at is)
        (λ right mine still unset. stayed fresh sound.0.between past entry.step entry.outcome entry.table entry.made t sound.1 sound.0.sound.replied right mine still unspent unset)
        right mine still unset
    by false is = refl

-- a side that has set no line since an offer, which an entry did not make, set none before this entry, nor did the entry
unset_parts : {E : Type 0} → (past : List (Entry E)) (entry : Entry E) (at : Side) (t : ℕ) → makes_offer t entry ≡ false → has_set at t (entry ∷ past) ≡ false → (sets_lines at entry.step ≡ false) × (has_set at t past ≡ false)
unset_parts past entry at t other unset = or_parts (sets_lines at entry.step) (has_set at t past) (rw other at unset)

-- The rows of a side whose token is right and not spent, and that has set no line since, are those that it offered.
pub rows_since : {E : Type 0} → (fresh : Stances) (past : List (Entry E)) (at : Side) (t : ℕ) → Sound fresh past → is_right at t past ≡ true → is_offer_of at (slice_get (sdps past) t) ≡ true → is_spent t past ≡ false
    → has_set at t past ≡ false → before at past ≡ rows_at_offer at t past
rows_since fresh [] at t sound right mine unspent unset = refl
rows_since fresh (entry ∷ past) at t sound right mine unspent unset =
    by (λ right mine unspent unset. rows_since fresh past at t sound.1 right mine unspent unset) (or_parts (spends t entry.step entry.outcome) (is_spent t past) unspent) (makes_offer t entry) refl
  where
    by : (is_right at t past ≡ true → is_offer_of at (slice_get (sdps past) t) ≡ true → is_spent t past ≡ false → has_set at t past ≡ false → before at past ≡ rows_at_offer at t past)
        → (spends t entry.step entry.outcome ≡ false) × (is_spent t past ≡ false)
        → (made : Bool) → makes_offer t entry ≡ made → before at (entry ∷ past) ≡ rows_at_offer at t (entry ∷ past)
    by earlier parts true is = rw is refl
    by earlier parts false is =
        let right_before = right_parts at t past entry is right in
        let mine_before : is_offer_of at (slice_get (sdps past) t) ≡ true = ap (is_offer_of at) (sym (within_there (sdps past) entry.made t (right_within fresh at t past sound.1 right_before.1))) ∙ mine in
        let unset_before = unset_parts past entry at t is unset in
        rows_stay fresh past entry at t sound right_before.1 mine_before right_before.0 parts.0 unset_before.0 ∙ earlier right_before.1 mine_before parts.1 unset_before.1 ∙ (rw is refl)
