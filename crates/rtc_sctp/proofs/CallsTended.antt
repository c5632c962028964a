-- Each call of streams keeps the entries tended.
use Rattle.std.proofs.Common.{◌≡◌, ◌≢◌, ℕ, not, cond, Bool, true, false, List, [], ◌∷◌, get_or, Option, Some, None, Result, Ok, Err, refl, sym, ap, subst, ◌∙◌}
use Rattle.std.specs.Prelude.{slice_set}
use Rattle.rtc_parts.specs.Why.{Shut, Other}
use Rattle.rtc_parts.specs.declared.assoc_error.AssocError.{AssocError}
use Rattle.rtc_parts.specs.AssociationMeaning.{AssociationMeaning}
use Rattle.rtc_parts.specs.AssociationLaws.{AssociationLaws}
use Rattle.rtc_parts.specs.AssociationActs.{Started, Taken, Stirred, ByConnect, ByAccept, BySnap, ConnectRefused, AcceptRefused, SnapRefused}
use Rattle.rtc_sctp_values.specs.StreamIds.{StreamIds, has_id}
use Rattle.rtc_sctp_entries.specs.declared.asked.Asked.{Asked}
use Rattle.rtc_sctp_entries.specs.declared.stream_entry.StreamEntry.{StreamEntry}
use Rattle.rtc_sctp_entries.specs.declared.sctp_event.SctpEvent.TheVariants as event
use Rattle.rtc_sctp_entries.specs.declared.met.Met.{Met}
use Rattle.rtc_sctp_entries.specs.declared.met.Met.TheVariants.{Nothing, Again, Output, OutOfMemory}
use Rattle.rtc_sctp_entries.specs.Entries.{Ascend, is_closed_state, unclosed}
use Rattle.rtc_sctp_entries.specs.Part.{AsksStart, AsksShutdown}
use Rattle.rtc_sctp_entries.proofs.UntoldVisits.{Untold, untold_none, untold_act}
use Rattle.rtc_sctp_values.specs.InitHalves.{InitHalves, half_bytes}
use Rattle.rtc_sctp.specs.declared.agenda.Agenda.{Agenda}
use Rattle.rtc_sctp.specs.Calls.{AsksInit}
use Rattle.rtc_sctp.specs.Polls.{TakesPacket}
use Rattle.rtc_sctp.specs.Rest.{AreUnclosed, OthersRest, AreCounted, AreTended}
use Rattle.rtc_sctp.proofs.CountLemmas.{has_entry_set, has_entry_unclosed, counted_with}
use Rattle.rtc_sctp.proofs.OrderKept.{ascend_unclosed}
use Rattle.rtc_sctp.proofs.RestLemmas.{others_noted, others_set}
use Rattle.rtc_sctp.proofs.TendedLemmas.{unclosed_set}

-- ---- the closed entries are dropped

pub unclosed_left : (es : List StreamEntry) → AreUnclosed (unclosed es)
unclosed_left [] = tt
unclosed_left (e ∷ es) = by (is_closed_state e.state) refl (unclosed_left es)
  where
    by : (b : Bool) → is_closed_state e.state ≡ b → AreUnclosed (unclosed es) → AreUnclosed (unclosed (e ∷ es))
    by true is rest = rw is rest
    by false is rest = rw is (is, rest)

module _ {S : Type 0} (m : AssociationMeaning S) where
  others_unclosed : (a : S) (ids : StreamIds) (es : List StreamEntry) → OthersRest m a ids es → OthersRest m a ids (unclosed es)
  others_unclosed a ids [] h = tt
  others_unclosed a ids (e ∷ es) h = by (not (is_closed_state e.state)) (others_unclosed a ids es h.1)
    where
      by : (b : Bool) → OthersRest m a ids (unclosed es) → OthersRest m a ids (cond b (e ∷ unclosed es) (unclosed es))
      by true rest = (h.0, rest)
      by false rest = rest

  pub tended_swept : (a : S) (es es' : List StreamEntry) (agenda agenda' : Agenda) → AreTended m a es agenda → es' ≡ unclosed es
      → (agenda'.streams ≡ agenda.streams) × (agenda'.buffered ≡ agenda.buffered) → AreTended m a es' agenda'
  tended_swept a es es' agenda agenda' h is same =
      subst (λ (l : List StreamEntry). AreTended m a l agenda') (sym is) (record {
        ascend = ascend_unclosed es h.ascend;
        rest = subst (λ (ids : StreamIds). OthersRest m a ids (unclosed es)) (sym same.0) (others_unclosed a agenda.streams es h.rest);
        unclosed_all = λ none. unclosed_left es;
        counted = λ id has out. h.counted id (has_entry_unclosed id es has) (ap (λ (ids : StreamIds). has_id id ids) (sym same.1) ∙ out);
      })

  -- an id is noted
  pub tended_noted : (a : S) (id : ℕ) (es : List StreamEntry) (agenda agenda' : Agenda) → AreTended m a es agenda → has_id id agenda'.streams ≡ true
      → ((other : ℕ) → other ≢ id → has_id other agenda'.streams ≡ has_id other agenda.streams) → has_id id agenda'.buffered ≡ true
      → ((other : ℕ) → other ≢ id → has_id other agenda'.buffered ≡ has_id other agenda.buffered) → agenda'.closed ≡ agenda.closed → AreTended m a es agenda'
  tended_noted a id es agenda agenda' h here others counts apart closed = record {
    ascend = h.ascend;
    rest = others_noted m a id agenda.streams agenda'.streams es here others h.rest;
    unclosed_all = λ none. h.unclosed_all (sym closed ∙ none);
    counted = counted_with m a id agenda.buffered agenda'.buffered es counts apart h.counted;
  }

  -- other streams are noted of which something may not be acknowledged
  pub tended_counted : (a : S) (es : List StreamEntry) (agenda agenda' : Agenda) → AreTended m a es agenda → agenda'.streams ≡ agenda.streams
      → agenda'.closed ≡ agenda.closed → AreCounted m a agenda'.buffered es → AreTended m a es agenda'
  tended_counted a es agenda agenda' h streams closed counted = record {
    ascend = h.ascend;
    rest = subst (λ (ids : StreamIds). OthersRest m a ids es) (sym streams) h.rest;
    unclosed_all = λ none. h.unclosed_all (sym closed ∙ none);
    counted = counted;
  }

  -- an entry whose id is noted is another one, closed only where it was
  pub tended_set : (a : S) (es : List StreamEntry) (i : ℕ) (e' : StreamEntry) (agenda : Agenda) → AreTended m a es agenda → has_id e'.id agenda.streams ≡ true
      → (get_or es i e').id ≡ e'.id → (AreUnclosed es → is_closed_state e'.state ≡ false) → Ascend (slice_set es i e') → AreTended m a (slice_set es i e') agenda
  tended_set a es i e' agenda h noted own still order = record {
    ascend = order;
    rest = others_set m a agenda.streams es i e' noted h.rest;
    unclosed_all = λ none. unclosed_set es i e' (still (h.unclosed_all none)) (h.unclosed_all none);
    counted = λ id has out. h.counted id (sym (has_entry_set id es i e' own) ∙ has) out;
  }

-- ---- calls of the association alone

module _ {S : Type 0} (m : AssociationMeaning S) (w : AssociationLaws m) where
  pub packet_untold : (p : S) (met : Met) (q : S) → TakesPacket m p met q → Untold m p q
  packet_untold p Nothing q h = subst (λ (x : S). Untold m p x) (sym (w.packet_none p q h)) (untold_none m p)
  packet_untold p Again q h = absurd h
  packet_untold p (Output (event.Transmit packets)) q h = untold_act m p q (Taken h.0) h.1 refl
  packet_untold p (Output (event.Open id label)) q h = absurd h
  packet_untold p (Output (event.Close id pending)) q h = absurd h
  packet_untold p (Output (event.StreamResetComplete id)) q h = absurd h
  packet_untold p (Output (event.Data id binary bytes)) q h = absurd h
  packet_untold p (Output (event.BufferedAmountLow id)) q h = absurd h
  packet_untold p (Output event.AssociationLost) q h = absurd h
  packet_untold p OutOfMemory q h = subst (λ (x : S). Untold m p x) (sym h) (untold_none m p)

  pub shut_untold : (p : S) (answer : Asked) (q : S) → AsksShutdown m p answer q → Untold m p q
  shut_untold p answer q h = untold_act m p q (Stirred Shut) (h.result, h.called) refl

  connect_untold : (p q : S) (now max : ℕ) (r : Result (Unit {0}) AssocError) → m.started p ≡ false → m.connected p now max r q → Untold m p q
  connect_untold p q now max (Ok x) fresh h = untold_act m p q Started (fresh, ByConnect now max h) refl
  connect_untold p q now max (Err e) fresh h = untold_act m p q (Stirred Other) (ConnectRefused now max e fresh h) refl

  accept_untold : (p q : S) (now max : ℕ) (r : Result (Unit {0}) AssocError) → m.started p ≡ false → m.accepted p now max r q → Untold m p q
  accept_untold p q now max (Ok x) fresh h = untold_act m p q Started (fresh, ByAccept now max h) refl
  accept_untold p q now max (Err e) fresh h = untold_act m p q (Stirred Other) (AcceptRefused now max e fresh h) refl

  snap_untold : (p q : S) (now max : ℕ) (local remote : List ℕ) (r : Result (Unit {0}) AssocError) → m.started p ≡ false
      → m.connected_snap p now max local remote r q → Untold m p q
  snap_untold p q now max local remote (Ok x) fresh h = untold_act m p q Started (fresh, BySnap now max local remote h) refl
  snap_untold p q now max local remote (Err e) fresh h = untold_act m p q (Stirred Other) (SnapRefused now max local remote e fresh h) refl

  start_untold : (client : Bool) (p : S) (now max : ℕ) (answer : Asked) (q : S) → m.started p ≡ false → AsksStart m client p now max answer q → Untold m p q
  start_untold true p now max answer q fresh h = connect_untold p q now max h.result fresh h.called
  start_untold false p now max answer q fresh h = accept_untold p q now max h.result fresh h.called

  pub init_untold : (snap : Option InitHalves) (client : Bool) (p : S) (now max : ℕ) (answer : Asked) (q : S) → m.started p ≡ false
      → AsksInit m snap client p now max answer q → Untold m p q
  init_untold None client p now max answer q fresh h = start_untold client p now max answer q fresh h
  init_untold (Some halves) client p now max answer q fresh h =
      snap_untold p q now max (half_bytes halves.local) (half_bytes halves.remote) h.1.result fresh h.1.called
