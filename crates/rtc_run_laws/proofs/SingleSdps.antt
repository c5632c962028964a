-- No source of a line stands twice in what peers make of sources that were unused when they were drawn.
use Rattle.std.proofs.Common.{◌≡◌, eqb, ℕ, zero, suc, Bool, true, false, List, [], ◌∷◌, ◌++◌, map, Option, Some, None, refl, arith, cond}
use Rattle.std.specs.Prelude.{IfSome, slice_get, slice_set}
use Rattle.std.specs.List.{AllByRecursion}
use Rattle.std.proofs.lemmas.Bool.Decides.{nat_tests}
use Rattle.rtc_sdp_values.specs.declared.line_row.LineRow.{LineRow}
use Rattle.rtc_sdp_values.specs.declared.line_row.LineRow.TheVariants.{Media, App}
use Rattle.rtc_sdp_values.specs.declared.candidate.Candidate.{Candidate}
use Rattle.rtc_sdp_values.specs.declared.media_line.MediaLine.{MediaLine}
use Rattle.rtc_sdp_values.specs.declared.sdp.Sdp.{Sdp}
use Rattle.rtc_sdp_reader.specs.PlainSources.{numbers_of, AreNumbersApart}
use Rattle.rtc_sdp_writer.specs.AsRead.{AreSourcesApart}
use Rattle.rtc_parts.specs.declared.media_update.MediaUpdate.{MediaUpdate}
use Rattle.rtc_peer_core.specs.declared.sdp_head.SdpHead.{SdpHead}
use Rattle.rtc_peer_core.specs.declared.told_row.ToldRow.{ToldRow}
use Rattle.rtc_peer_core.specs.MadeSdp.{shown_ssrcs, row_line, told_line, with_candidates, sdp_of_rows, offer_head, offered_told, answer_head, answered_told, offer_sdp, answer_sdp}
use Rattle.rtc_peer_core.specs.Sources.{Pair}
use Rattle.rtc_peer_core.specs.Stance.{Stance}
use Rattle.rtc_peer_core.proofs.Alls.{all-append}
use Rattle.rtc_peer_core.proofs.ApartSources.{AreSingle, IsSingleUpdate, IsSingleTold, AreStagedSingle, AreLinesSingle, offered_single, answered_single}
use Rattle.rtc_peer_core.specs.DrawnSources.{drawn_numbers}
use Rattle.rtc_run_history.specs.declared.kept.Kept.{Kept}
use Rattle.rtc_run_history.specs.declared.side.Side.{Side}
use Rattle.rtc_run_history.specs.PairState.{held_token, spent, token_for}
use Rattle.rtc_run_laws.proofs.ReadPasts.{all-get}
use Rattle.rtc_run_history.specs.Sides.{same_side}

-- ---- numbers as they are drawn, and as they are written

flipped : (x y : ℕ) → eqb y x ≡ false → eqb x y ≡ false
flipped x y h = grind (arith, nat_tests)

-- what holds of each number in the order in which they are drawn holds of each in the order of the lines
written_numbers : (P : ℕ → Type 0) (pairs : List Pair) → AllByRecursion P (drawn_numbers pairs) → AllByRecursion P (numbers_of pairs)
written_numbers P [] h = tt
written_numbers P ((own, None) ∷ pairs) h = (h.0, written_numbers P pairs h.1)
written_numbers P ((own, Some rtx) ∷ pairs) h = (h.1.0, (h.0, written_numbers P pairs h.1.1))

written_apart : (pairs : List Pair) → AreSingle pairs → AreNumbersApart pairs
written_apart [] h = tt
written_apart ((own, None) ∷ pairs) h = (written_numbers (λ n. eqb n own.0 ≡ false) pairs h.0, written_apart pairs h.1)
written_apart ((own, Some rtx) ∷ pairs) h = (
  (flipped rtx.0 own.0 h.0.0, written_numbers (λ n. eqb n own.0 ≡ false) pairs h.1.0),
  (written_numbers (λ n. eqb n rtx.0 ≡ false) pairs h.0.1, written_apart pairs h.1.1),
)

shown_apart : (stopped : Bool) (pairs : List Pair) → AreSingle pairs → AreNumbersApart (shown_ssrcs stopped pairs)
shown_apart true pairs h = tt
shown_apart false pairs h = written_apart pairs h

line_apart : (head : SdpHead) (told : ToldRow) (row : LineRow) → IsSingleTold told → AreNumbersApart (row_line head told.media row).ssrcs
line_apart head told (Media place mid kind dir stopped remote_created) h = shown_apart stopped told.media.ssrcs h
line_apart head told (App place mid) h = tt

lines_apart : (head : SdpHead) (told : List ToldRow) → AllByRecursion IsSingleTold told → AreSourcesApart (map (told_line head) told)
lines_apart head [] h = tt
lines_apart head (one ∷ told) h = (line_apart head one one.row h.0, lines_apart head told h.1)

apart_with : (candidates : List Candidate) (lines : List MediaLine) → AreSourcesApart lines → AreSourcesApart (with_candidates candidates lines)
apart_with candidates [] h = tt
apart_with candidates (line ∷ lines) h = h

-- no source of a line of these rows stands twice
rows_apart_in : (head : SdpHead) (told : List ToldRow) → AllByRecursion IsSingleTold told → AreSourcesApart (sdp_of_rows head told).lines
rows_apart_in head told h = apart_with head.candidates (map (told_line head) told) (lines_apart head told h)

-- what a peer makes of lines and staged lines whose sources stand once
pub offer_apart : (s : Stance) (init : Option (List ℕ)) → AreLinesSingle s.line → AreStagedSingle s.staged → AreSourcesApart (offer_sdp s init).lines
unfolding offer_sdp
offer_apart s init held staged = rows_apart_in (offer_head s init) (offered_told s) (offered_single s held staged)

pub answer_apart : (s : Stance) (restart : _) (updates : List MediaUpdate) (init : Option (List ℕ)) (offer : Sdp) → AreLinesSingle s.line
    → AllByRecursion IsSingleUpdate updates → AreSourcesApart (answer_sdp s restart updates init offer).lines
unfolding answer_sdp
answer_apart s restart updates init offer held told =
    rows_apart_in (answer_head s restart init offer) (answered_told s updates offer) (answered_single s updates offer held told)

-- ---- what is kept

-- no source of a line stands twice in a kept SDP, nor in a line that was staged with it
pub record IsSingleKept (kept : Kept) : Type 0 where
  pub apart : AreSourcesApart kept.sdp.lines
  pub changes : IfSome kept.token (λ token. AreStagedSingle token.changes)

abbrev pub AreSingleKept : List Kept → Type 0
AreSingleKept sdps = AllByRecursion IsSingleKept sdps

pub push_single : (sdps sdps' : List Kept) (last : Kept) → sdps' ≡ sdps ++ last ∷ [] → IsSingleKept last → AreSingleKept sdps → AreSingleKept sdps'
push_single sdps sdps' last pushed whole single = rw pushed (all-append IsSingleKept sdps (last ∷ []) single (whole, tt))

all-set : {A : Type 0} (P : A → Type 0) (xs : List A) (k : ℕ) (v : A) → P v → AllByRecursion P xs → AllByRecursion P (slice_set xs k v)
all-set P [] k v new h = tt
all-set P (y ∷ ys) zero v new h = (new, h.1)
all-set P (y ∷ ys) (suc k) v new h = (h.0, all-set P ys k v new h.1)

-- without a token
pub spent_single : (t : ℕ) (sdps : List Kept) → AreSingleKept sdps → AreSingleKept (spent t sdps)
spent_single t sdps single = by (slice_get sdps t) refl
  where
    by : (found : Option Kept) → slice_get sdps t ≡ found → AreSingleKept (spent t sdps)
    by None is = rw is single
    by (Some one) is =
        let same : IsSingleKept one = all-get IsSingleKept sdps t one is single in
        rw is (all-set IsSingleKept sdps t (record one { token = None }) (record { apart = same.apart; changes = tt }) single)

-- the token that a side holds
pub token_single : (sdps : List Kept) (at : Side) (t : ℕ) → AreSingleKept sdps → IfSome (held_token sdps at t) (λ token. AreStagedSingle token.changes)
token_single sdps at t single = by (slice_get sdps t) refl
  where
    picked : (b : Bool) (kept : Kept) → IsSingleKept kept → IfSome (cond b kept.token None) (λ token. AreStagedSingle token.changes)
    picked true kept is = is.changes
    picked false kept is = tt

    by : (found : Option Kept) → slice_get sdps t ≡ found → IfSome (token_for at found) (λ token. AreStagedSingle token.changes)
    by None there = tt
    by (Some kept) there = picked (same_side kept.at at) kept (all-get IsSingleKept sdps t kept there single)
