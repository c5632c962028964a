-- The messages that were taken on the line of a member.
use Rattle.std.proofs.Common.{◌≡◌, ◌∙◌, ◌++◌, if◌then◌else◌, ℕ, Bool, true, false, List, [], ◌∷◌, map, Option, Some, None, refl, sym, ap, append-nil, append_assoc}
use Rattle.std.proofs.lemmas.List.{map-append}
use Rattle.rtc_plain_media.specs.declared.plain_media_event.PlainMediaEvent.{PlainMediaEvent}
use Rattle.rtc_run_history.specs.declared.outcome.Outcome.{Outcome}
use Rattle.rtc_run_history.specs.declared.outcome.Outcome.TheVariants.{Wrote}
use Rattle.rtc_run_history.specs.declared.side.Side.{Side}
use Rattle.rtc_run_history.specs.declared.side.Side.TheVariants.{Left, Right}
use Rattle.rtc_run_history.specs.declared.step.Step.{Step}
use Rattle.rtc_run_history.specs.declared.step.Step.TheVariants.{Negotiate, AcceptOffer, AcceptAnswer, Time, Datagram, Poll, Drain}
use Rattle.rtc_run_history.specs.declared.step.Step.TheVariants.{Write, CloseChannel, Close, Rollback, ForeignOffer, ForeignAnswer, Raw}
use Rattle.rtc_run_history.specs.Past.{Entry}
use Rattle.rtc_run_history.specs.Sides.{same_side}
use Rattle.rtc_room_laws.specs.Forwarding.{AreTaken, AreWritten, WriteEnd, NotTaken, NotOpen, WriteRefused, end_outcome}
use Rattle.rtc_room_laws.specs.ItemMessages.{LineMessage}
use Rattle.rtc_room_laws.specs.RoomSteps.{is_allowed}
use Rattle.rtc_room_laws.specs.declared.item.Item.{Item}
use Rattle.rtc_room_laws.proofs.ItemTexts.{written_message}

-- a message, if its write was taken
abbrev pub message_taken : Outcome PlainMediaEvent → LineMessage → List LineMessage
message_taken (Wrote taken) message = if taken then message ∷ [] else []
message_taken outcome message = []

-- what a step at the left peer wrote, if it was taken
abbrev pub taken_by : Step → Outcome PlainMediaEvent → List LineMessage
taken_by (Write at channel binary bytes) outcome = if same_side at Left then message_taken outcome (binary, bytes) else []
taken_by step outcome = []

abbrev pub taken_messages : List (Entry PlainMediaEvent) → List LineMessage
taken_messages [] = []
taken_messages (entry ∷ past) = taken_messages past ++ taken_by entry.step entry.outcome

pub taken_messages-append : (more past : List (Entry PlainMediaEvent)) → taken_messages (more ++ past) ≡ taken_messages past ++ taken_messages more
taken_messages-append [] past = sym (append-nil (taken_messages past))
taken_messages-append (entry ∷ more) past =
    ap (λ (l : List LineMessage). l ++ taken_by entry.step entry.outcome) (taken_messages-append more past)
    ∙ append_assoc (taken_messages past) (taken_messages more) (taken_by entry.step entry.outcome)

pub are_taken_messages : (line : ℕ) (items : List Item) (performed : List (Entry PlainMediaEvent)) → AreTaken line items performed
    → taken_messages performed ≡ map written_message items
are_taken_messages line items [] h = ap (map written_message) (sym h)
are_taken_messages line items (entry ∷ performed) h =
    ap (λ (l : List LineMessage). l ++ taken_by entry.step entry.outcome) (are_taken_messages line h.0 performed h.5)
    ∙ ap (λ (step : Step). map written_message h.0 ++ taken_by step entry.outcome) h.3
    ∙ ap (λ (outcome : Outcome PlainMediaEvent). map written_message h.0 ++ message_taken outcome (written_message h.1)) h.4
    ∙ sym (map-append written_message h.0 (h.1 ∷ []))
    ∙ ap (map written_message) (sym h.2)

ends_untaken : (end : WriteEnd) (message : LineMessage) → message_taken (end_outcome end) message ≡ []
ends_untaken NotTaken message = refl
ends_untaken NotOpen message = refl
ends_untaken (WriteRefused error) message = refl

pub are_written_messages : (line : ℕ) (items : List Item) (end : Option WriteEnd) (left : List Item) (performed : List (Entry PlainMediaEvent))
    → AreWritten line items end left performed → taken_messages performed ≡ map written_message items
are_written_messages line items None left performed h = are_taken_messages line items performed h.0
are_written_messages line items (Some end) [] performed h = absurd h
are_written_messages line items (Some end) (next ∷ left) [] h = absurd h
are_written_messages line items (Some end) (next ∷ left) (entry ∷ performed) h =
    ap (λ (l : List LineMessage). l ++ taken_by entry.step entry.outcome) (are_taken_messages line items performed h.0)
    ∙ ap (λ (step : Step). map written_message items ++ taken_by step entry.outcome) h.1
    ∙ ap (λ (outcome : Outcome PlainMediaEvent). map written_message items ++ message_taken outcome (written_message next)) h.2
    ∙ ap (λ (l : List LineMessage). map written_message items ++ l) (ends_untaken end (written_message next))
    ∙ append-nil (map written_message items)

-- a step that members may perform writes nothing at the left peer
allowed_write : (at : Side) (binary : Bool) (bytes : List ℕ) (outcome : Outcome PlainMediaEvent) → same_side at Right ≡ true
    → (if same_side at Left then message_taken outcome (binary, bytes) else []) ≡ []
allowed_write Left binary bytes outcome h = absurd (let bad : false ≡ true = h in cc)
allowed_write Right binary bytes outcome h = refl

pub allowed_takes_none : (step : Step) (outcome : Outcome PlainMediaEvent) → is_allowed step ≡ true → taken_by step outcome ≡ []
allowed_takes_none (Negotiate at ops apply) outcome h = refl
allowed_takes_none (AcceptOffer at offer) outcome h = refl
allowed_takes_none (AcceptAnswer at token answer) outcome h = refl
allowed_takes_none (Time at now) outcome h = refl
allowed_takes_none (Datagram at packet now) outcome h = refl
allowed_takes_none (Poll at) outcome h = refl
allowed_takes_none (Drain at) outcome h = refl
allowed_takes_none (Write at channel binary bytes) outcome h = allowed_write at binary bytes outcome h
allowed_takes_none (CloseChannel at channel) outcome h = refl
allowed_takes_none (Close at) outcome h = refl
allowed_takes_none (Rollback at token) outcome h = refl
allowed_takes_none (ForeignOffer at text) outcome h = refl
allowed_takes_none (ForeignAnswer at token text) outcome h = refl
allowed_takes_none (Raw at bytes now) outcome h = refl
