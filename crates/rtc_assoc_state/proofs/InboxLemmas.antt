-- Messages that come, by the first of a generation of a stream.
use Rattle.std.proofs.Common.{ℕ, ◌≡◌, ◌==◌, ◌<◌, Bool, true, false, not, cond, ◌||◌, List, [], ◌∷◌, ◌++◌, length, set, get_or, remove, refl, sym, ap, ◌∙◌, arith, Option, Some, None}
use Rattle.std.specs.List.{position, list_any}
use Rattle.rtc_assoc_state.specs.declared.message.Message.{Message}
use Rattle.rtc_assoc_state.specs.Inbox.{MessagePart, part, is_part_of, is_message_of, bytes_so_far, with_more, without_part}
use Rattle.rtc_assoc_state.specs.Streams.{stream_of}
use Rattle.rtc_assoc_state.specs.Contents.{Contents}
use Rattle.rtc_assoc_state.specs.Calls.{first_message_of, messages_behind, next_message, taken_out}
use Rattle.rtc_assoc_state.proofs.Firsts.{at_position, at_get, at_within, found_position, none_position, set-middle}

pub head_fails : {X : Type 0} (p : X → Bool) (x : X) (xs : List X) → list_any p (x ∷ xs) ≡ false → (p x ≡ false) × (list_any p xs ≡ false)
head_fails p x xs f = split (p x) (list_any p xs) f
  where
    split : (a b : Bool) → (a || b) ≡ false → (a ≡ false) × (b ≡ false)
    split true b e = absurd cc
    split false b e = (refl, e)

bytes_so_far-middle : (s g : ℕ) (before after : List MessagePart) (p : MessagePart) → list_any (is_part_of s g) before ≡ false → is_part_of s g p ≡ true → bytes_so_far s g (before ++ p ∷ after) ≡ p.bytes
bytes_so_far-middle s g [] after p f e = rw e refl
bytes_so_far-middle s g (b ∷ before) after p f e = let h = head_fails (is_part_of s g) b before f in rw h.0 (bytes_so_far-middle s g before after p h.1 e)

with_more-middle : (s g : ℕ) (bytes : List ℕ) (before after : List MessagePart) (p : MessagePart) → list_any (is_part_of s g) before ≡ false → is_part_of s g p ≡ true → with_more s g bytes (before ++ p ∷ after) ≡ before ++ (record p { bytes = p.bytes ++ bytes }) ∷ after
with_more-middle s g bytes [] after p f e = rw e refl
with_more-middle s g bytes (b ∷ before) after p f e = let h = head_fails (is_part_of s g) b before f in rw h.0 (ap (λ l. b ∷ l) (with_more-middle s g bytes before after p h.1 e))

pub none-bytes_so_far : (s g : ℕ) (parts : List MessagePart) → list_any (is_part_of s g) parts ≡ false → bytes_so_far s g parts ≡ []
none-bytes_so_far s g [] f = refl
none-bytes_so_far s g (p ∷ parts) f = let h = head_fails (is_part_of s g) p parts f in rw h.0 (none-bytes_so_far s g parts h.1)

none-with_more : (s g : ℕ) (bytes : List ℕ) (parts : List MessagePart) → list_any (is_part_of s g) parts ≡ false → with_more s g bytes parts ≡ parts ++ part s g bytes ∷ []
none-with_more s g bytes [] f = refl
none-with_more s g bytes (p ∷ parts) f = let h = head_fails (is_part_of s g) p parts f in rw h.0 (ap (λ l. p ∷ l) (none-with_more s g bytes parts h.1))

pub bytes_so_far-found : (s g : ℕ) (parts : List MessagePart) (i : ℕ) (p d : MessagePart) → position (is_part_of s g) parts ≡ Some i → p ≡ get_or parts i d → bytes_so_far s g parts ≡ p.bytes
bytes_so_far-found s g parts i p d e k =
    let w = at_position (is_part_of s g) parts i p d e k in
    ap (bytes_so_far s g) w.is ∙ bytes_so_far-middle s g w.before w.after p w.fails w.passes

pub with_more-found : (s g : ℕ) (bytes : List ℕ) (parts : List MessagePart) (i : ℕ) (p d q : MessagePart) → position (is_part_of s g) parts ≡ Some i → p ≡ get_or parts i d → q ≡ record p { bytes = p.bytes ++ bytes } → set parts i q ≡ with_more s g bytes parts
with_more-found s g bytes parts i p d q e k n =
    let w = at_position (is_part_of s g) parts i p d e k in
    ap (λ l. set l i q) w.is ∙ ap (λ j. set (w.before ++ p ∷ w.after) j q) (sym w.place) ∙ set-middle w.before w.after p q
    ∙ ap (λ x. w.before ++ x ∷ w.after) n
    ∙ sym (ap (with_more s g bytes) w.is ∙ with_more-middle s g bytes w.before w.after p w.fails w.passes)

pub bytes_so_far-none : (s g : ℕ) (parts : List MessagePart) → position (is_part_of s g) parts ≡ None → bytes_so_far s g parts ≡ []
bytes_so_far-none s g parts e = none-bytes_so_far s g parts (none_position (is_part_of s g) parts e)

pub with_more-none : (s g : ℕ) (bytes : List ℕ) (parts : List MessagePart) → position (is_part_of s g) parts ≡ None → parts ++ part s g bytes ∷ [] ≡ with_more s g bytes parts
with_more-none s g bytes parts e = sym (none-with_more s g bytes parts (none_position (is_part_of s g) parts e))

message_in-middle : (s g : ℕ) (before after : List Message) (m : Message) → list_any (is_message_of s g) before ≡ false → is_message_of s g m ≡ true → first_message_of s g (before ++ m ∷ after) ≡ Some m
message_in-middle s g [] after m f e = rw e refl
message_in-middle s g (b ∷ before) after m f e = let h = head_fails (is_message_of s g) b before f in rw h.0 (message_in-middle s g before after m h.1 e)

messages_behind-middle : (s g : ℕ) (before after : List Message) (m : Message) → list_any (is_message_of s g) before ≡ false → is_message_of s g m ≡ true → messages_behind s g (before ++ m ∷ after) ≡ before ++ after
messages_behind-middle s g [] after m f e = rw e refl
messages_behind-middle s g (b ∷ before) after m f e = let h = head_fails (is_message_of s g) b before f in rw h.0 (ap (λ l. b ∷ l) (messages_behind-middle s g before after m h.1 e))

pub none-message_in : (s g : ℕ) (messages : List Message) → list_any (is_message_of s g) messages ≡ false → first_message_of s g messages ≡ None
none-message_in s g [] f = refl
none-message_in s g (m ∷ messages) f = let h = head_fails (is_message_of s g) m messages f in rw h.0 (none-message_in s g messages h.1)

pub none-messages_behind : (s g : ℕ) (messages : List Message) → list_any (is_message_of s g) messages ≡ false → messages_behind s g messages ≡ messages
none-messages_behind s g [] f = refl
none-messages_behind s g (m ∷ messages) f = let h = head_fails (is_message_of s g) m messages f in rw h.0 (ap (λ l. m ∷ l) (none-messages_behind s g messages h.1))

remove-middle : (before after : List Message) (m : Message) → remove (before ++ m ∷ after) (length before) ≡ before ++ after
remove-middle [] after m = refl
remove-middle (b ∷ before) after m = ap (λ l. b ∷ l) (remove-middle before after m)

pub message_in-found : (s g : ℕ) (messages : List Message) (i : ℕ) (r : Option Message) → position (is_message_of s g) messages ≡ Some i → ((d : Message) → i < length messages → r ≡ Some (get_or messages i d)) → r ≡ first_message_of s g messages
message_in-found s g messages i r e k =
    let w = found_position (is_message_of s g) messages i e in
    k w.0 (at_within (is_message_of s g) messages i w.0 w.1) ∙ ap (λ m. Some m) (at_get (is_message_of s g) messages i w.0 w.0 w.1)
    ∙ sym (ap (first_message_of s g) w.1.is ∙ message_in-middle s g w.1.before w.1.after w.0 w.1.fails w.1.passes)

pub messages_behind-found : (s g : ℕ) (messages : List Message) (i : ℕ) → position (is_message_of s g) messages ≡ Some i → remove messages i ≡ messages_behind s g messages
messages_behind-found s g messages i e =
    let w = found_position (is_message_of s g) messages i e in
    ap (λ l. remove l i) w.1.is ∙ ap (λ j. remove (w.1.before ++ w.0 ∷ w.1.after) j) (sym w.1.place) ∙ remove-middle w.1.before w.1.after w.0
    ∙ sym (ap (messages_behind s g) w.1.is ∙ messages_behind-middle s g w.1.before w.1.after w.0 w.1.fails w.1.passes)

pub found_within : (s g : ℕ) (messages : List Message) (i : ℕ) → position (is_message_of s g) messages ≡ Some i → i < length messages
found_within s g messages i e = let w = found_position (is_message_of s g) messages i e in at_within (is_message_of s g) messages i w.0 w.1

pub message_in-none : (s g : ℕ) (messages : List Message) → position (is_message_of s g) messages ≡ None → first_message_of s g messages ≡ None
message_in-none s g messages e = none-message_in s g messages (none_position (is_message_of s g) messages e)

pub messages_behind-none : (s g : ℕ) (messages : List Message) → position (is_message_of s g) messages ≡ None → messages ≡ messages_behind s g messages
messages_behind-none s g messages e = sym (none-messages_behind s g messages (none_position (is_message_of s g) messages e))

-- where there is no message, nothing is taken out
none_behind : (s g : ℕ) (messages : List Message) → first_message_of s g messages ≡ None → messages_behind s g messages ≡ messages
none_behind s g [] e = refl
none_behind s g (m ∷ messages) e = by_test (is_message_of s g m) (λ f. none_behind s g messages f) e
  where
    by_test : (b : Bool) → (first_message_of s g messages ≡ None → messages_behind s g messages ≡ messages) → cond b (Some m) (first_message_of s g messages) ≡ None → cond b messages (m ∷ messages_behind s g messages) ≡ m ∷ messages
    by_test true h e = absurd cc
    by_test false h e = ap (λ l. m ∷ l) (h e)

pub taken_out-none : (id : ℕ) (p : Contents) → next_message id p ≡ None → taken_out id p ≡ p
unfolding taken_out
taken_out-none id p e = let same = none_behind id (stream_of id p.streams).generation p.inbox.unread e in ap (λ l. record p { inbox = record p.inbox { unread = l } }) same

-- a message whose pieces were taken out, and one that got a piece more
without_part-middle : (s g : ℕ) (before after : List MessagePart) (p : MessagePart) → is_part_of s g p ≡ true → without_part s g (before ++ after) ≡ without_part s g (before ++ p ∷ after)
without_part-middle s g [] after p e = rw e refl
without_part-middle s g (b ∷ before) after p e = ap (λ l. cond (not (is_part_of s g b)) (b ∷ l) l) (without_part-middle s g before after p e)

remove_part-middle : (before after : List MessagePart) (p : MessagePart) → remove (before ++ p ∷ after) (length before) ≡ before ++ after
remove_part-middle [] after p = refl
remove_part-middle (b ∷ before) after p = ap (λ l. b ∷ l) (remove_part-middle before after p)

pub without_part-removed : (s g : ℕ) (parts : List MessagePart) (i : ℕ) → position (is_part_of s g) parts ≡ Some i → without_part s g (remove parts i) ≡ without_part s g parts
without_part-removed s g parts i e =
    let w = found_position (is_part_of s g) parts i e in
    ap (λ l. without_part s g (remove l i)) w.1.is ∙ ap (λ j. without_part s g (remove (w.1.before ++ w.0 ∷ w.1.after) j)) (sym w.1.place)
    ∙ ap (without_part s g) (remove_part-middle w.1.before w.1.after w.0) ∙ without_part-middle s g w.1.before w.1.after w.0 w.1.passes ∙ ap (without_part s g) (sym w.1.is)

pub fails-without_part : (s g : ℕ) (parts : List MessagePart) → list_any (is_part_of s g) parts ≡ false → parts ≡ without_part s g parts
fails-without_part s g [] f = refl
fails-without_part s g (p ∷ parts) f = let h = head_fails (is_part_of s g) p parts f in rw h.0 (ap (λ l. p ∷ l) (fails-without_part s g parts h.1))

pub without_part-none : (s g : ℕ) (parts : List MessagePart) → position (is_part_of s g) parts ≡ None → parts ≡ without_part s g parts
without_part-none s g parts e = fails-without_part s g parts (none_position (is_part_of s g) parts e)

same_number : (n : ℕ) → (n == n) ≡ true
same_number n = grind arith

pub own_part : (s g : ℕ) (bytes : List ℕ) → is_part_of s g (part s g bytes) ≡ true
own_part s g bytes = rw (same_number s, same_number g) refl

pub bytes_so_far-with_more : (s g : ℕ) (bytes : List ℕ) (parts : List MessagePart) → bytes_so_far s g (with_more s g bytes parts) ≡ bytes_so_far s g parts ++ bytes
bytes_so_far-with_more s g bytes [] = rw (own_part s g bytes) refl
bytes_so_far-with_more s g bytes (p ∷ parts) = by (is_part_of s g p) refl (bytes_so_far-with_more s g bytes parts)
  where
    by : (b : Bool) → is_part_of s g p ≡ b → bytes_so_far s g (with_more s g bytes parts) ≡ bytes_so_far s g parts ++ bytes → bytes_so_far s g (cond b (record p { bytes = p.bytes ++ bytes } ∷ parts) (p ∷ with_more s g bytes parts)) ≡ cond b p.bytes (bytes_so_far s g parts) ++ bytes
    by true e h = rw e refl
    by false e h = rw e h

pub without_part-with_more : (s g : ℕ) (bytes : List ℕ) (parts : List MessagePart) → without_part s g (with_more s g bytes parts) ≡ without_part s g parts
without_part-with_more s g bytes [] = rw (own_part s g bytes) refl
without_part-with_more s g bytes (p ∷ parts) = by (is_part_of s g p) refl (without_part-with_more s g bytes parts)
  where
    by : (b : Bool) → is_part_of s g p ≡ b → without_part s g (with_more s g bytes parts) ≡ without_part s g parts → without_part s g (cond b (record p { bytes = p.bytes ++ bytes } ∷ parts) (p ∷ with_more s g bytes parts)) ≡ cond (not b) (p ∷ without_part s g parts) (without_part s g parts)
    by true e h = rw e refl
    by false e h = rw e (ap (λ l. p ∷ l) h)
