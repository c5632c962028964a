-- A receiver is whole exactly where it took an End.
use Rattle.std.proofs.Common.{ℕ, ◌≡◌, ◌⊎◌, inl, inr, Bool, true, false, List, [], ◌∷◌, Option, Some, None, Result, Ok, Err, not, ◌||◌, refl, ◌∙◌, ap, sym}
use Rattle.std.specs.Str.{bytes_eq}
use Rattle.std.proofs.lemmas.Bool.{true≢false}
use Rattle.std.proofs.lemmas.Option.{none-some}
use Rattle.std.proofs.lemmas.Slice.Eq.{bytes_eq-Decides}
use Rattle.sha2.specs.Sha256.{sha256}
use Rattle.rtc_file_records.specs.declared.file_record.FileRecord.{FileRecord}
use Rattle.rtc_file_records.specs.declared.file_record.FileRecord.TheVariants.{Begin, Piece, End, Resume}
use Rattle.rtc_file_records.specs.declared.file_error.FileError.{FileError}
use Rattle.rtc_file_records.specs.declared.file_error.FileError.TheVariants.{Order, OtherFile, Mismatch}
use Rattle.std.specs.Option.{option_or}
use Rattle.std.specs.Result.{is_ok}
use Rattle.rtc_file_records.specs.Records.{record_in}
use Rattle.rtc_file_records.specs.Receiving.{ReceivedFile, TakesMessage, refusal_by, with_record, nothing_received, cause_if, is_out_of_order, is_other, too_much, short, mismatch, is_end}
use Rattle.rtc_file_records.specs.Laws.{ReceiverEvent, SessionBegins, MessageComes, Receives, ReceivesAll, IsEndTaken, WasEndTaken, IsWholeByEnds}

-- no cause among several
none_both : {T : Type 0} (a b : Option T) → option_or a b ≡ None → (a ≡ None) × (b ≡ None)
none_both None b e = (refl, e)
none_both (Some x) b e = absurd (none-some x (sym e))

cause_none : (holds : Bool) (why : FileError) → cause_if holds why ≡ None → holds ≡ false
cause_none true why e = absurd (none-some why (sym e))
cause_none false why e = refl

not_false : (b : Bool) → not b ≡ false → b ≡ true
not_false true e = refl
not_false false e = sym e

in_order : (file : ReceivedFile) (made : FileRecord) → refusal_by file (Some made) ≡ None → is_out_of_order file made ≡ false
in_order file made fine = cause_none (is_out_of_order file made) Order (none_both (cause_if (is_out_of_order file made) Order) _ fine).0

-- once the file is whole, each record is out of order
whole_refuses : (file : ReceivedFile) (made : FileRecord) → file.whole ≡ true → is_out_of_order file made ≡ false → ⊥
whole_refuses file (Begin name total) whole order = true≢false (sym (ap (λ b. b || file.begun) whole) ∙ order)
whole_refuses file (Piece offset bytes) whole order = true≢false (sym (ap (λ b. b || not file.begun) whole) ∙ order)
whole_refuses file (End total digest) whole order = true≢false (sym (ap (λ b. b || not file.begun) whole) ∙ order)
whole_refuses file (Resume offset) whole order = true≢false order

-- an End that is not refused has the digest of what is held
digest_fits : (file : ReceivedFile) (total : ℕ) (digest : List ℕ) → refusal_by file (Some (End total digest)) ≡ None → sha256 file.held ≡ digest
digest_fits file total digest fine =
    let made : FileRecord = End total digest in
    let second = (none_both (cause_if (is_out_of_order file made) Order) _ fine).1 in
    let third = (none_both (cause_if (is_other file.announced made) OtherFile) _ second).1 in
    let fourth = (none_both (too_much file.announced file.held made) _ third).1 in
    let fifth = (none_both (short file.held made) _ fourth).1 in
    let last = (none_both (mismatch file.held made) _ fifth).0 in
    sym ((bytes_eq-Decides digest (sha256 file.held)).0 (not_false (bytes_eq digest (sha256 file.held)) (cause_none (not (bytes_eq digest (sha256 file.held))) (Mismatch (sha256 file.held) digest) last)))

-- what one event does to a receiver
record Happens (event : ReceiverEvent) (old new : ReceivedFile) : Type 0 where
  only : new.whole ≡ true → (old.whole ≡ true) ⊎ ((digest : List ℕ) × IsEndTaken digest event)
  stays : old.whole ≡ true → (new.whole ≡ true) × (new.held ≡ old.held)
  then : (digest : List ℕ) → IsEndTaken digest event → (new.whole ≡ true) × (sha256 new.held ≡ digest)

abbrev ok_flag : Bool → Result Bool FileError → Bool
ok_flag d (Ok b) = b
ok_flag d (Err e) = d

ok_is : (ended : Bool) → (let answer : Result Bool FileError = Ok ended in answer) ≡ Ok true → ended ≡ true
ok_is ended e = ap (λ (r : Result Bool FileError). ok_flag ended r) e

err_is : (why : FileError) → (let answer : Result Bool FileError = Err why in answer) ≡ Ok true → ⊥
err_is why e = true≢false (sym (ap (λ (r : Result Bool FileError). is_ok r) e))

-- a record that is not an End leaves the file as whole as it was
other_happens : (message : List ℕ) (ended : Bool) (made : FileRecord) (old new : ReceivedFile) → is_end made ≡ false → ended ≡ is_end made → is_out_of_order old made ≡ false → new.whole ≡ old.whole
    → Happens (MessageComes message (Ok ended)) old new
other_happens message ended made old new none ended_is order same = record {
  only = λ whole. inl (sym same ∙ whole);
  stays = λ whole. absurd (whole_refuses old made whole order);
  then = λ digest taken. absurd (true≢false (sym (ok_is ended taken.0) ∙ ended_is ∙ none));
}

abbrev digest_in : Option FileRecord → List ℕ
digest_in None = []
digest_in (Some (Begin name total)) = []
digest_in (Some (Piece offset bytes)) = []
digest_in (Some (End total digest)) = digest
digest_in (Some (Resume offset)) = []

end_happens : (message : List ℕ) (ended : Bool) (total : ℕ) (digest : List ℕ) (old new : ReceivedFile) → record_in message ≡ Some (End total digest) → ended ≡ true → is_out_of_order old (End total digest) ≡ false
    → sha256 old.held ≡ digest → new ≡ with_record old (End total digest) → Happens (MessageComes message (Ok ended)) old new
end_happens message ended total digest old new read ended_is order fits is = record {
  only = λ whole. inr (digest, (ap Ok ended_is, (total, read)));
  stays = λ whole. absurd (whole_refuses old (End total digest) whole order);
  then = λ other taken. (
    ap (λ (x : ReceivedFile). x.whole) is,
    ap (λ (x : ReceivedFile). sha256 x.held) is ∙ fits ∙ ap digest_in (sym read ∙ taken.1.1),
  );
}

message_happens : (message : List ℕ) (answer : Result Bool FileError) (old new : ReceivedFile) (read : Option FileRecord) → record_in message ≡ read → TakesMessage answer old read new → Happens (MessageComes message answer) old new
message_happens message (Err why) old new read is takes = record {
  only = λ whole. inl (ap (λ (x : ReceivedFile). x.whole) (sym takes.0) ∙ whole);
  stays = λ whole. (ap (λ (x : ReceivedFile). x.whole) takes.0 ∙ whole, ap (λ (x : ReceivedFile). x.held) takes.0);
  then = λ digest taken. absurd (err_is why taken.0);
}
message_happens message (Ok ended) old new None is takes = absurd takes
message_happens message (Ok ended) old new (Some (Begin name total)) is takes = other_happens message ended (Begin name total) old new refl takes.1 (in_order old (Begin name total) takes.0) (ap (λ (x : ReceivedFile). x.whole) takes.2)
message_happens message (Ok ended) old new (Some (Piece offset bytes)) is takes = other_happens message ended (Piece offset bytes) old new refl takes.1 (in_order old (Piece offset bytes) takes.0) (ap (λ (x : ReceivedFile). x.whole) takes.2)
message_happens message (Ok ended) old new (Some (End total digest)) is takes = end_happens message ended total digest old new is takes.1 (in_order old (End total digest) takes.0) (digest_fits old total digest takes.0) takes.2
message_happens message (Ok ended) old new (Some (Resume offset)) is takes = other_happens message ended (Resume offset) old new refl takes.1 (in_order old (Resume offset) takes.0) (ap (λ (x : ReceivedFile). x.whole) takes.2)

happens : (event : ReceiverEvent) (old new : ReceivedFile) → Receives event old new → Happens event old new
happens SessionBegins old new is = record {
  only = λ whole. inl (ap (λ (x : ReceivedFile). x.whole) (sym is) ∙ whole);
  stays = λ whole. (ap (λ (x : ReceivedFile). x.whole) is ∙ whole, ap (λ (x : ReceivedFile). x.held) is);
  then = λ digest taken. absurd taken;
}
happens (MessageComes message answer) old new takes = message_happens message answer old new (record_in message) refl takes

-- what all events do
record HappenAll (events : List ReceiverEvent) (old new : ReceivedFile) : Type 0 where
  only : new.whole ≡ true → (old.whole ≡ true) ⊎ ((digest : List ℕ) × WasEndTaken digest events)
  stays : old.whole ≡ true → (new.whole ≡ true) × (new.held ≡ old.held)
  then : (digest : List ℕ) → WasEndTaken digest events → (new.whole ≡ true) × (sha256 new.held ≡ digest)

first_or_later : (event : ReceiverEvent) (rest : List ReceiverEvent) (old between : ReceivedFile) → Happens event old between → (between.whole ≡ true) ⊎ ((digest : List ℕ) × WasEndTaken digest rest)
    → (old.whole ≡ true) ⊎ ((digest : List ℕ) × WasEndTaken digest (event ∷ rest))
first_or_later event rest old between at (inr later) = inr (later.0, inr later.1)
first_or_later event rest old between at (inl whole) = elim (at.only whole) [ inl before ↦ inl before | inr now ↦ inr (now.0, inl now.1) ]

still_taken : (event : ReceiverEvent) (rest : List ReceiverEvent) (old between new : ReceivedFile) (digest : List ℕ) → Happens event old between → HappenAll rest between new → WasEndTaken digest (event ∷ rest)
    → (new.whole ≡ true) × (sha256 new.held ≡ digest)
still_taken event rest old between new digest at more (inl now) =
    let first = at.then digest now in
    let later = more.stays first.0 in
    (later.0, ap sha256 later.1 ∙ first.1)
still_taken event rest old between new digest at more (inr later) = more.then digest later

happen_all : (events : List ReceiverEvent) (old new : ReceivedFile) → ReceivesAll events old new → HappenAll events old new
happen_all [] old new is = record {
  only = λ whole. inl (ap (λ (x : ReceivedFile). x.whole) (sym is) ∙ whole);
  stays = λ whole. (ap (λ (x : ReceivedFile). x.whole) is ∙ whole, ap (λ (x : ReceivedFile). x.held) is);
  then = λ digest taken. absurd taken;
}
happen_all (event ∷ rest) old new goes =
    let between = goes.0 in
    let at = happens event old between goes.1 in
    let more = happen_all rest between new goes.2 in
    record {
      only = λ whole. first_or_later event rest old between at (more.only whole);
      stays = λ whole. let first = at.stays whole in let later = more.stays first.0 in (later.0, later.1 ∙ first.1);
      then = λ digest taken. still_taken event rest old between new digest at more taken;
    }

from_nothing : (events : List ReceiverEvent) → (nothing_received.whole ≡ true) ⊎ ((digest : List ℕ) × WasEndTaken digest events) → (digest : List ℕ) × WasEndTaken digest events
from_nothing events (inl whole) = absurd (true≢false (sym whole))
from_nothing events (inr taken) = taken

-- the law
pub whole_by_ends : (events : List ReceiverEvent) (file : ReceivedFile) → ReceivesAll events nothing_received file → IsWholeByEnds events file
whole_by_ends events file goes =
    let all = happen_all events nothing_received file goes in
    record { only = λ whole. from_nothing events (all.only whole); then = all.then }
