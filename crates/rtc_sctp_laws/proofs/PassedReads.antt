-- A stream with nothing unread is passed over, whether it is read or not.
use Rattle.std.proofs.Common.{◌≡◌, inl, inr, ℕ, not, Bool, true, false, true≢false, List, Option, Some, None, Result, Ok, Err, sym, ap, subst, ◌∙◌}
use Rattle.rtc_io.specs.Faults.{Rose}
use Rattle.rtc_parts.specs.declared.assoc_error.AssocError.{AssocError}
use Rattle.rtc_parts.specs.declared.assoc_error.AssocError.TheVariants.{StreamExists, ResetPending, NoStream, TooLong, Closing, Fault, Alloc}
use Rattle.rtc_parts.specs.declared.ppi.Ppi.{Ppi}
use Rattle.rtc_parts.specs.AssociationMeaning.{AssociationMeaning}
use Rattle.rtc_parts.specs.AssociationLaws.{AssociationLaws}
use Rattle.rtc_parts.specs.AssociationNeeds.{need}
use Rattle.rtc_sctp_entries.specs.declared.heard.Heard.{Heard}
use Rattle.rtc_sctp_entries.specs.declared.met.Met.{Met}
use Rattle.rtc_sctp_entries.specs.Answers.{heard_of}
use Rattle.rtc_sctp_entries.specs.Visits.{Turn, ReadBy, MayRead, IsRead, NothingUnread}
use Rattle.rtc_sctp_laws.specs.PassedReads.{PassesOver}

-- a stream that is there is no cause to refuse
no_cause : (there : Bool) (e : AssocError) → there ≡ true → need (not there) NoStream None ≡ Some e → ⊥
no_cause true e is h = let clash : None ≡ Some e = h in cc
no_cause false e is h = absurd (true≢false (sym is))

module _ {S : Type 0} (m : AssociationMeaning S) (w : AssociationLaws m) where
  read_over : (r : Result (Option (Ppi × List ℕ)) AssocError) (t : Turn S) (q : S) (met : Met) (t' : Turn S)
      → m.has_stream t.association t.entry.id ≡ true → m.has_unread t.association t.entry.id (m.generation t.association t.entry.id) ≡ false
      → m.read t.association t.entry.id r q → ReadBy m (heard_of r) (record t { association = q }) met t' → PassesOver m t met t'
  read_over (Ok None) t q met t' there none was h =
      inl (h.0, h.1 ∙ ap (λ (a : S). record t { association = a }) (w.read_none t.association q t.entry.id was))
  read_over (Ok (Some x)) t q met t' there none was h = absurd (true≢false (sym (w.read_unread t.association q t.entry.id x was) ∙ none))
  read_over (Err Alloc) t q met t' there none was h = inr (inl h.0)
  read_over (Err Fault) t q met t' there none was h =
      inr
      (inr
      (subst (λ (a : S). Rose (m.faults t.association) (m.faults a)) (sym (ap (λ (x : Turn S). x.association) h.1))
      (w.read_answer t.association q t.entry.id (Err Fault) was)))
  read_over (Err NoStream) t q met t' there none was h =
      absurd (no_cause (m.has_stream t.association t.entry.id) NoStream there (w.read_answer t.association q t.entry.id (Err NoStream) was).0)
  read_over (Err StreamExists) t q met t' there none was h =
      absurd (no_cause (m.has_stream t.association t.entry.id) StreamExists there (w.read_answer t.association q t.entry.id (Err StreamExists) was).0)
  read_over (Err ResetPending) t q met t' there none was h =
      absurd (no_cause (m.has_stream t.association t.entry.id) ResetPending there (w.read_answer t.association q t.entry.id (Err ResetPending) was).0)
  read_over (Err TooLong) t q met t' there none was h =
      absurd (no_cause (m.has_stream t.association t.entry.id) TooLong there (w.read_answer t.association q t.entry.id (Err TooLong) was).0)
  read_over (Err Closing) t q met t' there none was h =
      absurd (no_cause (m.has_stream t.association t.entry.id) Closing there (w.read_answer t.association q t.entry.id (Err Closing) was).0)

  pub passes_over : (t t' : Turn S) (met : Met) → m.has_stream t.association t.entry.id ≡ true
      → m.has_unread t.association t.entry.id (m.generation t.association t.entry.id) ≡ false → MayRead m t met t' → PassesOver m t met t'
  passes_over t t' met there none (NothingUnread unread is same) = inl (is, same)
  passes_over t t' met there none (IsRead h) =
      read_over h.asks.result t h.between met t' there none h.asks.called
      (subst (λ (a : Heard). ReadBy m a (record t { association = h.between }) met t') (sym h.asks.is) h.then)
