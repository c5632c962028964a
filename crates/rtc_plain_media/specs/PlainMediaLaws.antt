-- The plain media part keeps the laws of every media part.
use Rattle.std.proofs.Common.{◌≡◌, ◌≢◌, inl, inr, ℕ, ◌≤◌, Bool, true, false, List, length, Option, Result, Ok, refl, sym, ap}
use Rattle.std.proofs.Common.{subst, ◌∙◌, arith, ◌||◌}
use Rattle.std.specs.List.{list_any}
use Rattle.std.specs.declared.alloc.AllocError.{AllocError}
use Rattle.rtc_sdp_values.specs.declared.ssrc.Ssrc.{Ssrc}
use Rattle.rtc_parts.specs.declared.media_update.MediaUpdate.{MediaUpdate}
use Rattle.rtc_parts.specs.MediaUpdates.{same_mid, removed_by}
use Rattle.rtc_parts.specs.MediaMeaning.{held_media}
use Rattle.rtc_parts.specs.MediaActs.{Committed, LineRemoved, changes_pending}
use Rattle.rtc_parts.specs.MediaLaws.{MediaLaws, SameLines, UsesStream}
use Rattle.rtc_plain_media.specs.declared.plain_mark.PlainMark.{PlainMark}
use Rattle.rtc_plain_media.specs.declared.stream_row.StreamRow.{StreamRow}
use Rattle.rtc_plain_media.specs.declared.plain_media_event.PlainMediaEvent.{PlainMediaEvent}
use Rattle.rtc_plain_media.specs.Streams.{
  Streams,
  has_ssrc,
  has_name,
  row_uses,
  made_stream_row,
  put_row,
  change_first,
  marked,
  numbered,
  row_can_renumber,
  without_streams,
}
use Rattle.rtc_plain_media.specs.MediaContents.{MediaContents, update_of, line_uses, has_streams_of}
use Rattle.rtc_plain_media.specs.PlainMediaMeaning.{MediaLeaves, plain_media_meaning}
use Rattle.rtc_plain_media.specs.UpdateLemmas.{is_same, same_is, line-applied, line-dropped, line-dropped_other, update-writer_marked}
use Rattle.rtc_plain_media.specs.UsedLemmas.{
  or_none,
  any-change,
  any-put_own,
  any-put_other,
  any-change_own,
  any-change_other,
  any-dropped,
  any-without,
  any-writer_marked,
  uses_is,
  own_ssrc,
  own_rtx,
  first_uses,
  second_uses,
  first_other,
  second_other,
}
use Rattle.rtc_plain_media.specs.NameLemmas.{Finds, layer_of_line, some_streams, found_layer, named_stream, finds_made}
use Rattle.rtc_plain_media.specs.QueueLemmas.{
  event_fell,
  datagram_fell,
  no_length,
  told_only,
  gave_only,
  fallible_only,
  quiet_told,
  quiet_gave,
  no_event,
  cleared_quiet,
  quiet_cleared,
  shut_most,
  keyed_most,
}
use Rattle.rtc_plain_media.specs.ActLemmas.{
  MediaEffect,
  Staying,
  ChangingLines,
  MediaStay,
  Keeping,
  Preparing,
  stay,
  stay_prepares,
  effect,
  leaves_with,
  tells_none,
  gives_none,
}

abbrev Plain : (p q : MediaContents) → Type 0
Plain p q = SameLines plain_media_meaning p q

-- lines and used SSRCs are those of another part
same_as : (p t q : MediaContents) → Plain p t → q ≡ t → Plain p q
same_as p t q s h = subst (Plain p) (sym h) s

-- preparing
prepared_same : (p q : MediaContents) (updates : List MediaUpdate) (r : Result (Unit {0}) AllocError)
    → MediaLeaves p (record p { pending = updates }) r q → Plain p q
prepared_same p q updates r h =
    leaves_with (Plain p) p (record p { pending = updates }) q r
    (record { lines = λ mid. refl; used = λ ssrc. refl }) (record { lines = λ mid. refl; used = λ ssrc. refl }) h

-- what is pending, and what lines are, after each act
pending_after : (p q : MediaContents) (b : Bool) → MediaEffect p b q → b ≡ false → q.pending ≡ p.pending
pending_after p q b (Staying (Keeping k)) e = k.pending
pending_after p q b (Staying (Preparing updates t h)) e = absurd (let x : true ≡ false = sym t ∙ e in cc)
pending_after p q b (ChangingLines (Committed h) t) e = absurd (let x : true ≡ false = sym t ∙ e in cc)
pending_after p q b (ChangingLines (LineRemoved mid h) t) e = ap (λ (c : MediaContents). c.pending) h

lines_kept : (p q : MediaContents) (b : Bool) (mid : List ℕ) → MediaStay p b q → update_of q mid ≡ update_of p mid
lines_kept p q b mid (Keeping k) = k.lines mid
lines_kept p q b mid (Preparing updates t h) = (prepared_same p q updates (Ok tt) h).lines mid

-- streams of lines that are gone
no_streams : (p : MediaContents) (mid : List ℕ) (gone : List ℕ → Bool) → gone mid ≡ true
    → has_streams_of (record p { rx = without_streams gone p.rx; tx = without_streams gone p.tx }) mid ≡ false
no_streams p mid gone h = or_none _ _ (any-without mid gone p.rx h) (any-without mid gone p.tx h)

-- whatever mark is written, the SSRCs in use are unchanged
mark_uses : (ssrc : Ssrc) (fits : StreamRow → Bool) (w : PlainMark) (rows : Streams)
    → list_any (row_uses ssrc) (marked fits w rows) ≡ list_any (row_uses ssrc) rows
mark_uses ssrc fits w rows = any-change (row_uses ssrc) fits (λ row. record row { mark = w }) rows (λ row. refl)

rx_marked : (p q : MediaContents) (fits : StreamRow → Bool) (w : PlainMark) → q ≡ record p { rx = marked fits w p.rx } → Plain p q
rx_marked p q fits w h =
    same_as p _ q (record {
      lines = λ mid. refl;
      used = λ ssrc. ap (λ (t : Bool). t
          || (list_any (row_uses ssrc) p.tx || list_any (line_uses ssrc) p.lines)) (mark_uses ssrc fits w p.rx);
    }) h

tx_marked : (p q : MediaContents) (fits : StreamRow → Bool) (w : PlainMark) → q ≡ record p { tx = marked fits w p.tx } → Plain p q
tx_marked p q fits w h =
    same_as p _ q (record {
      lines = λ mid. refl;
      used = λ ssrc. ap (λ (t : Bool). list_any (row_uses ssrc) p.rx
          || (t || list_any (line_uses ssrc) p.lines)) (mark_uses ssrc fits w p.tx);
    }) h

writer_kept : (p q : MediaContents) (mid : List ℕ) (lent left : PlainMark) → plain_media_meaning.writer_lent p mid lent left q
    → Plain p q
writer_kept p q mid lent left h =
    same_as p _ q
    (record {
      lines = λ m. update-writer_marked m mid left p.lines;
      used = λ ssrc. ap (λ (t : Bool). list_any (row_uses ssrc) p.rx
          || (list_any (row_uses ssrc) p.tx || t)) (any-writer_marked ssrc mid left p.lines);
    })
    h.1

-- streams that are made
uses_as : (p t q : MediaContents) (ssrc : Ssrc) (rtx : Option Ssrc) → UsesStream plain_media_meaning p ssrc rtx t → q ≡ t
    → UsesStream plain_media_meaning p ssrc rtx q
uses_as p t q ssrc rtx u h = subst (λ (c : MediaContents). UsesStream plain_media_meaning p ssrc rtx c) (sym h) u

module _ (p : MediaContents) (ssrc : Ssrc) (rtx : Option Ssrc) (mid : List ℕ) (rid : Option (List ℕ)) (w : PlainMark) where
  abbrev row : StreamRow
  row = record (made_stream_row ssrc rtx mid rid) { mark = w }

  abbrev in_rx : Ssrc → Bool
  in_rx s = list_any (row_uses s) p.rx

  abbrev in_tx : Ssrc → Bool
  in_tx s = list_any (row_uses s) p.tx

  abbrev in_lines : Ssrc → Bool
  in_lines s = list_any (line_uses s) p.lines

  rx_put : UsesStream plain_media_meaning p ssrc rtx (record p { rx = put_row row p.rx })
  rx_put = record {
    lines = λ m. refl;
    own = first_uses _ (in_tx ssrc) (in_lines ssrc) (any-put_own (row_uses ssrc) row p.rx (own_ssrc ssrc rtx));
    retransmissions = λ other e.
        first_uses _ (in_tx other) (in_lines other) (any-put_own (row_uses other) row p.rx (own_rtx ssrc rtx other e));
    others = λ other h.
        elim (first_other (in_rx other) _ (in_tx other
        || in_lines other) (any-put_other (row_uses other) row p.rx) h) [ inl a ↦ inr (uses_is ssrc rtx other a) | inr a ↦ inl a ];
  }

  tx_put : UsesStream plain_media_meaning p ssrc rtx (record p { tx = put_row row p.tx })
  tx_put = record {
    lines = λ m. refl;
    own = second_uses (in_rx ssrc) _ (in_lines ssrc) (any-put_own (row_uses ssrc) row p.tx (own_ssrc ssrc rtx));
    retransmissions = λ other e.
        second_uses (in_rx other) _ (in_lines other) (any-put_own (row_uses other) row p.tx (own_rtx ssrc rtx other e));
    others = λ other h.
        elim (second_other (in_rx other) (in_tx other) _ (in_lines other) (any-put_other (row_uses other) row p.tx) h)
        [ inl a ↦ inr (uses_is ssrc rtx other a) | inr a ↦ inl a ];
  }

  tx_renumbered : plain_media_meaning.resets_tx p mid rid ssrc rtx ≡ true
      → UsesStream plain_media_meaning p ssrc rtx (record p { tx = change_first (has_name mid rid) (numbered ssrc rtx w) p.tx })
  tx_renumbered can = record {
    lines = λ m. refl;
    own = second_uses (in_rx ssrc) _ (in_lines ssrc)
        (any-change_own (row_uses ssrc) (has_name mid rid) (row_can_renumber ssrc rtx) (numbered ssrc rtx w) p.tx
        (λ r. own_ssrc ssrc rtx) can);
    retransmissions = λ other e. second_uses (in_rx other) _ (in_lines other)
        (any-change_own (row_uses other) (has_name mid rid) (row_can_renumber ssrc rtx) (numbered ssrc rtx w) p.tx
        (λ r. own_rtx ssrc rtx other e) can);
    others = λ other h.
        elim (second_other (in_rx other) (in_tx other) _ (in_lines other)
        (any-change_other (row_uses other) (has_name mid rid) (numbered ssrc rtx w) p.tx (λ r a. uses_is ssrc rtx other a)) h)
        [ inl a ↦ inr a | inr a ↦ inl a ];
  }

-- two mids that differ are distinguished
other_mid : (a b : List ℕ) → a ≢ b → same_mid a b ≡ false
other_mid a b n = by (same_mid a b) refl
  where
    by : (t : Bool) → same_mid a b ≡ t → same_mid a b ≡ false
    by true is = absurd (n (same_is a b is))
    by false is = is

pub plain_media_laws : MediaLaws plain_media_meaning
plain_media_laws = record {
  fresh_line = λ p mid h. ap (λ (c : MediaContents). update_of c mid) h;
  prepare_same = prepared_same;
  prepare_pending = λ p q updates h. ap (λ (c : MediaContents). c.pending) h;
  commit_lines = λ p q mid h. ap (λ (c : MediaContents). update_of c mid) h ∙ line-applied p mid;
  commit_streams = λ p q mid h gone.
      ap (λ (c : MediaContents). has_streams_of c mid) h ∙ no_streams p mid (removed_by p.pending) gone;
  pending_stays = λ p q act h e. pending_after p q (changes_pending plain_media_meaning p q act h) (effect p q act h) e;
  removed_line = λ p q mid h. ap (λ (c : MediaContents). update_of c mid) h ∙ line-dropped p mid;
  removed_streams = λ p q mid h.
      ap (λ (c : MediaContents). has_streams_of c mid) h
      ∙ no_streams p mid (λ other. same_mid other mid) (is_same mid mid refl);
  removed_others = λ p q mid other n h.
      ap (λ (c : MediaContents). update_of c other) h ∙ line-dropped_other p mid other (other_mid other mid n);
  lines_stay = λ p q mid h. lines_kept p q (stay_prepares p q h) mid (stay p q h);
  writer_same = writer_kept;
  rx_same = λ p q ssrc lent left h. rx_marked p q (has_ssrc ssrc) left h.1;
  tx_same = λ p q ssrc lent left h. tx_marked p q (has_ssrc ssrc) left h.1;
  rx_named_same = λ p q mid rid lent left h. rx_marked p q (has_name mid rid) left h.1;
  tx_named_same = λ p q mid rid lent left h. tx_marked p q (has_name mid rid) left h.1;
  rx_uses = λ p q ssrc rtx mid rid lent left h. uses_as p _ q ssrc rtx (rx_put p ssrc rtx mid rid left) h.1;
  tx_uses = λ p q ssrc rtx mid rid lent left h. uses_as p _ q ssrc rtx (tx_put p ssrc rtx mid rid left) h.1;
  reset_uses = λ p q mid rid ssrc rtx lent left can h. uses_as p _ q ssrc rtx (tx_renumbered p ssrc rtx mid rid left can) h.1;
  rx_of_line = λ p mid rid h. some_streams p mid (inl (layer_of_line mid rid p.rx h));
  tx_of_line = λ p mid rid h. some_streams p mid (inr (layer_of_line mid rid p.tx h));
  streams_found = λ p mid h. found_layer p.rx p.tx mid h;
  rx_named = λ p ssrc h. named_stream ssrc p.rx h;
  tx_named = λ p ssrc h. named_stream ssrc p.tx h;
  rx_made = λ p q ssrc rtx mid rid lent left h.
      subst (λ (c : MediaContents). Finds c.rx ssrc mid rid) (sym h.1) (finds_made ssrc rtx mid rid left p.rx);
  tx_made = λ p q ssrc rtx mid rid lent left h.
      subst (λ (c : MediaContents). Finds c.tx ssrc mid rid) (sym h.1) (finds_made ssrc rtx mid rid left p.tx);
  rx_removal = λ p q ssrc b h.
      (h.0, ap (λ (c : MediaContents). list_any (has_ssrc ssrc) c.rx) h.1 ∙ any-dropped (has_ssrc ssrc) p.rx);
  tx_removal = λ p q ssrc b h.
      (h.0, ap (λ (c : MediaContents). list_any (has_ssrc ssrc) c.tx) h.1 ∙ any-dropped (has_ssrc ssrc) p.tx);
  faults_rise = λ p q act h. omega arith;
  time_fault = λ p q now e n h. absurd h;
  event_fault = λ p q now e n h. absurd h;
  event_none = λ p q h. (tells_none p.events p q h).0;
  fallible_none = λ p q now h. h.1;
  datagram_none = λ p q now h. (gives_none p.datagrams p q h).0;
  quiet_event = λ p q r none h. told_only p.events p q r (no_length p.events none) h;
  quiet_fallible = λ p q now r none h. inl (fallible_only p q r h);
  quiet_datagram = λ p q now r none h. gave_only p.datagrams p q r (no_length p.datagrams none) h;
  silent_events = λ p q o now h k. ap (λ (l : List PlainMediaEvent). length l) (tells_none p.events p q h).1;
  silent_datagrams = λ p q now h. ap (λ (l : List (List ℕ)). length l) (gives_none p.datagrams p q h).1;
  quiet_told = λ p none. quiet_told p none;
  quiet_told_fallible = λ p now none. (refl, refl);
  quiet_gave = λ p now none. quiet_gave p none;
  event_falls = event_fell;
  fallible_falls = λ p q now e h. no_event e h.0;
  fault_falls = λ p q now e n h. absurd h;
  lack_falls = λ p q now h. absurd h;
  datagram_falls = λ p q now d h. datagram_fell p q d h;
  clear_held = λ p q h.
      subst (λ (c : MediaContents). held_media plain_media_meaning c ≤ held_media plain_media_meaning p) (sym h) (omega arith);
  clear_quiets = λ p q none h. subst (λ (c : MediaContents). held_media plain_media_meaning c ≡ 0) (sym h) (omega (arith, none));
  clear_quiet = cleared_quiet;
  clear_wake = λ p q h. refl;
  app_wake = λ p q sender media payload r h. refl;
  quiet_cleared = λ p none. quiet_cleared p none;
  shut_held = shut_most;
  key_held = λ p q key profile active r h. keyed_most p q r h;
}
