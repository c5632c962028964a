-- A packet is read as what it was made of.
use Rattle.std.proofs.Common.{ℕ, ◌≡◌, ◌≤◌, ◌<◌, ◌^◌, List, [], ◌∷◌, length, Some, None, refl, arith}
use Rattle.std.proofs.lemmas.Bool.{le-ltb}
use Rattle.std.proofs.lemmas.Nat.{from_be_bytes-to_be_bytes_2, from_be_bytes-to_be_bytes_4, from_be_bytes-to_be_bytes_8}
use Rattle.rtc_assoc_state.specs.declared.item_part.ItemPart.{ItemPart}
use Rattle.rtc_assoc_state.specs.declared.item_part.ItemPart.TheVariants.{More, Last, Close}
use Rattle.rtc_assoc_state.specs.declared.item.Item.{Item}
use Rattle.rtc_assoc_state.specs.declared.frame.Frame.TheVariants.{Hello, Welcome, Data, Acknowledgement, Shutdown}
use Rattle.rtc_assoc_state.specs.Packets.{part_byte, part_of, data_header, data_bytes, acknowledgement_bytes, Fits, data_in, frame_in}

-- an item is its fields
pub item_is : (s g i t h j : ℕ) (part : ItemPart) (b c : List ℕ) → s ≡ t → g ≡ h → i ≡ j → b ≡ c
    → (let made : Item = record { stream = s; generation = g; part = part; identifier = i; bytes = b } in made) ≡ (record { stream = t; generation = h; part = part; identifier = j; bytes = c })
item_is s g i t h j part b c p q r e = rw (p, q, r, e) refl

part_of-part_byte : (part : ItemPart) → part_of (part_byte part) ≡ Some part
part_of-part_byte More = refl
part_of-part_byte Last = refl
part_of-part_byte Close = refl

frame_is : (a b n m : ℕ) (i j : Item) → a ≡ b → n ≡ m → i ≡ j → Some (Data a n i) ≡ Some (Data b m j)
frame_is a b n m i j p q e = cc

data_length : (a n : ℕ) (item : Item) → 28 ≤ length (data_bytes a n item)
unfolding data_header
data_length a n item = omega arith

pub data_reads_back : (a n : ℕ) (item : Item) → Fits a n item.stream item.generation item.identifier → frame_in (data_bytes a n item) ≡ Some (Data a n item)
unfolding data_header frame_in data_in
data_reads_back a n item fits =
    rw (le-ltb (length (data_bytes a n item)) 28 (data_length a n item), part_of-part_byte item.part)
    (frame_is _ a _ n _ item
    (from_be_bytes-to_be_bytes_8 a fits.acknowledged_fits)
    (from_be_bytes-to_be_bytes_8 n fits.number_fits)
    (item_is _ _ _ item.stream item.generation item.identifier item.part _ item.bytes
    (from_be_bytes-to_be_bytes_2 item.stream fits.stream_fits)
    (from_be_bytes-to_be_bytes_4 item.generation fits.generation_fits)
    (from_be_bytes-to_be_bytes_4 item.identifier fits.identifier_fits)
    refl))

acknowledgement_is : (n m : ℕ) → n ≡ m → Some (Acknowledgement n) ≡ Some (Acknowledgement m)
acknowledgement_is n m e = cc

pub acknowledgement_reads_back : (n : ℕ) → n < 2 ^ 64 → frame_in (acknowledgement_bytes n) ≡ Some (Acknowledgement n)
unfolding acknowledgement_bytes frame_in
acknowledgement_reads_back n h = acknowledgement_is _ n (from_be_bytes-to_be_bytes_8 n h)

-- the packets of one byte
pub hello_reads_back : frame_in (1 ∷ []) ≡ Some Hello
unfolding frame_in
hello_reads_back = refl

pub welcome_reads_back : frame_in (2 ∷ []) ≡ Some Welcome
unfolding frame_in
welcome_reads_back = refl

pub shutdown_reads_back : frame_in (5 ∷ []) ≡ Some Shutdown
unfolding frame_in
shutdown_reads_back = refl

-- no bytes say nothing
pub nothing_reads_back : frame_in [] ≡ None
unfolding frame_in
nothing_reads_back = refl
