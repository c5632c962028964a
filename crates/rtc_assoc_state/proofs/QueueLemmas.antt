-- Queues of messages by stream, and the list that they make.
use Rattle.std.proofs.Common.{ℕ, ◌≡◌, ◌<◌, ◌==◌, false, List, [], ◌∷◌, ◌++◌, None, sym, ap, ◌∙◌}
use Rattle.std.specs.List.{list_any}
use Rattle.std.specs.Map.{lookup, set_value}
use Rattle.std.specs.Ordering.{nat_cmp}
use Rattle.std.specs.BTreeMap.{is_at}
use Rattle.rtc_assoc_state.specs.declared.message.Message.{Message}
use Rattle.rtc_assoc_state.specs.Inbox.{is_message_of, with_message, without_messages}
use Rattle.rtc_assoc_state.specs.Calls.{first_message_of, messages_behind}
use Rattle.rtc_assoc_state.specs.Queued.{all_queued, stream_of_message}
use Rattle.rtc_assoc_state.proofs.MessageLists.{all_so, behind-back, behind-front, first-back, first-front, none_of, not_same_above, not_same_below, with-split, without-back, without-front}
use Rattle.rtc_assoc_state.proofs.SplitLemmas.{Own, Split, absent}

module _ {Q : Type 0} (items : Q → List Message) where
  pub absent-any : (s g : ℕ) (es : List (ℕ × Q)) → Own items stream_of_message es → lookup (is_at (nat_cmp s)) es ≡ None → list_any (is_message_of s g) (all_queued items es) ≡ false
  absent-any s g es o f = none_of s g (all_queued items es) (absent items stream_of_message s es o f)

  pub front_apart : (s g : ℕ) (es : List (ℕ × Q)) (q : Q) (w : Split items stream_of_message s es q) → list_any (is_message_of s g) w.front ≡ false
  front_apart s g es q w = none_of s g w.front (all_so (λ m. m.stream < s) (λ m. (m.stream == s) ≡ false) (λ m h. not_same_below m.stream s h) w.front w.low)

  pub back_apart : (s g : ℕ) (es : List (ℕ × Q)) (q : Q) (w : Split items stream_of_message s es q) → list_any (is_message_of s g) w.back ≡ false
  back_apart s g es q w = none_of s g w.back (all_so (λ m. s < m.stream) (λ m. (m.stream == s) ≡ false) (λ m h. not_same_above m.stream s h) w.back w.high)

  -- what is written to one queue, seen in the list
  pub queue_first : (s g : ℕ) (es : List (ℕ × Q)) (q : Q) → Split items stream_of_message s es q → first_message_of s g (items q) ≡ first_message_of s g (all_queued items es)
  queue_first s g es q w = sym (ap (first_message_of s g) w.is ∙ first-front s g w.front (items q ++ w.back) (front_apart s g es q w) ∙ first-back s g (items q) w.back (back_apart s g es q w))

  pub queue_taken : (s g : ℕ) (es : List (ℕ × Q)) (q new : Q) → Split items stream_of_message s es q → items new ≡ messages_behind s g (items q) → all_queued items (set_value (is_at (nat_cmp s)) es new) ≡ messages_behind s g (all_queued items es)
  queue_taken s g es q new w e =
      w.set new ∙ ap (λ l. w.front ++ (l ++ w.back)) e
      ∙ sym (ap (messages_behind s g) w.is ∙ behind-front s g w.front (items q ++ w.back) (front_apart s g es q w) ∙ ap (λ l. w.front ++ l) (behind-back s g (items q) w.back (back_apart s g es q w)))

  pub queue_without : (s g : ℕ) (es : List (ℕ × Q)) (q new : Q) → Split items stream_of_message s es q → items new ≡ without_messages s g (items q) → all_queued items (set_value (is_at (nat_cmp s)) es new) ≡ without_messages s g (all_queued items es)
  queue_without s g es q new w e =
      w.set new ∙ ap (λ l. w.front ++ (l ++ w.back)) e
      ∙ sym (ap (without_messages s g) w.is ∙ without-front s g w.front (items q ++ w.back) (front_apart s g es q w) ∙ ap (λ l. w.front ++ l) (without-back s g (items q) w.back (back_apart s g es q w)))

  pub queue_with : (m : Message) (es : List (ℕ × Q)) (q new : Q) → Split items stream_of_message m.stream es q → items new ≡ items q ++ m ∷ [] → all_queued items (set_value (is_at (nat_cmp m.stream)) es new) ≡ with_message m (all_queued items es)
  queue_with m es q new w e =
      w.set new ∙ ap (λ l. w.front ++ (l ++ w.back)) e ∙ sym (ap (with_message m) w.is ∙ with-split m w.front (items q) w.back w.low w.own w.high)
