-- Which SSRCs a call draws, and that each was unused when it was drawn.
use Rattle.std.specs.Prelude.{◌≡◌, ◌||◌, ℕ, Bool, true, false, List, [], ◌∷◌, ◌++◌, IfSome}
use Rattle.std.specs.List.{AllByRecursion, flat_map}
use Rattle.rtc_sdp_values.specs.LineRow.{row_mid}
use Rattle.rtc_sdp_values.specs.declared.line_row.LineRow.{LineRow}
use Rattle.rtc_sdp_values.specs.declared.media_line.MediaLine.{MediaLine}
use Rattle.rtc_sdp_values.specs.declared.sdp.Sdp.{Sdp}
use Rattle.rtc_parts.specs.Draws.{Draws}
use Rattle.rtc_change.specs.declared.change.Change.{Change}
use Rattle.rtc_change.specs.PendingOffer.{PendingOffer}
use Rattle.rtc_peer_core.specs.declared.peer.Peer.{Peer}
use Rattle.rtc_peer_core.specs.declared.sending.Sending.{Sending}
use Rattle.rtc_peer_core.specs.Calls.{uses_source}
use Rattle.rtc_peer_core.specs.LineUpdates.{media_of_change, layered, row_pairs, after_row}
use Rattle.rtc_peer_core.specs.Meanings.{Meanings}
use Rattle.rtc_peer_core.specs.SdpMoves.{rows_of_sdp, sends_on, answer_ids}
use Rattle.rtc_peer_core.specs.Sources.{Pair, pair_numbers, is_number}

-- Each of these numbers, in the order in which they were drawn, was unused then: no stream had it, and it was not drawn earlier in its
-- call.
abbrev pub AreDrawnUnused : (ℕ → Bool) → List ℕ → List ℕ → Type 0
AreDrawnUnused used earlier [] = Unit {0}
AreDrawnUnused used earlier (n ∷ numbers) = ((used n || is_number n earlier) ≡ false) × AreDrawnUnused used (earlier ++ n ∷ []) numbers

-- the numbers of pairs, in the order in which they are drawn
abbrev pub drawn_numbers : List Pair → List ℕ
drawn_numbers pairs = flat_map pair_numbers pairs

-- so was each SSRC of the media lines that changes add; a line is staged by a call of its own
abbrev pub AreStagedUnused : (ℕ → Bool) → List Change → Type 0
AreStagedUnused used changes =
    AllByRecursion (λ change. IfSome (media_of_change change) (λ media. AreDrawnUnused used [] (drawn_numbers media.ssrcs))) changes

module _ {N : Type 0} (draws : Draws N) (used : ℕ → Bool) (sends : List ℕ → Sending) where
  -- the numbers that are drawn for rows, with the m-lines that name them
  abbrev pub row_draws : List LineRow → List MediaLine → List ℕ → N → List ℕ
  row_draws [] lines earlier ids = []
  row_draws (row ∷ rows) [] earlier ids = []
  row_draws (row ∷ rows) (line ∷ lines) earlier ids =
      drawn_numbers (row_pairs draws used (layered line (sends (row_mid row))) earlier row ids)
      ++ row_draws rows lines
      (earlier ++ drawn_numbers (row_pairs draws used (layered line (sends (row_mid row))) earlier row ids))
      (after_row draws used (layered line (sends (row_mid row))) row ids)

module _ {I D S M E X T W N : Type 0} (m : Meanings I D S M E X T W N) where
  -- the numbers that a peer draws as it accepts an offer or an answer, if they are drawn from these
  abbrev pub numbers_for : Peer I D S M N → Bool → List Change → Sdp → N → List ℕ
  numbers_for p offer changes sdp ids =
      row_draws m.ids (uses_source m p) (sends_on m p changes) (rows_of_sdp m p offer sdp) sdp.lines [] ids

  -- each SSRC that a peer draws as it accepts an offer is unused
  abbrev pub OfferDrawsUnused : Peer I D S M N → Sdp → Type 0
  OfferDrawsUnused p offer = AreDrawnUnused (uses_source m p) [] (numbers_for p true [] offer (answer_ids m p offer))

  -- the same of an answer, with the token of its offer
  abbrev pub AnswerDrawsUnused : Peer I D S M N → PendingOffer → Sdp → Type 0
  AnswerDrawsUnused p token answer = AreDrawnUnused (uses_source m p) [] (numbers_for p false token.changes answer p.ids)
