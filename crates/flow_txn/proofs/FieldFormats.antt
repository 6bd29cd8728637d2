-- The fields of a record: what is read is what is spelled.
use Rattle.std.proofs.Common.{◌≡◌, ℕ, suc, ◌-◌, ◌^◌, ◌<◌, ◌≤◌, min, Bool, true, false, not, ◌&&◌, cond, ltb, leb, ℤ, pos, negsuc, List, [], ◌∷◌, ◌++◌, length, take, drop, Some, None, refl, sym, ap, subst, ◌∙◌, arith, inl, inr}
use Rattle.std.specs.Prelude.{FitsSigned}
use Rattle.std.specs.Int.{Width, w16, w32, w64, byte_len, from_be_bytes, to_be_bytes, cast_signed, cast_unsigned}
use Rattle.std.specs.Char.{is_ascii_alphabetic}
use Rattle.std.specs.List.{flat_map, list_all, All, AllByRecursion}
use Rattle.std.proofs.lemmas.Bool.{cases_lt, ltb-true, ltb-false, lt-ltb, le-ltb, leb-true, and_parts, not-true}
use Rattle.std.proofs.lemmas.Int.{to_z-of_z, of_z-to_z}
use Rattle.std.proofs.lemmas.List.{take_at, drop_at, take-append-drop, length-append, length-take}
use Rattle.std.proofs.lemmas.List.Elements.{All-from_recursion, recursion_from_All}
use Rattle.std.proofs.lemmas.Nat.{be_bytes_2, be_bytes_4, be_bytes_8, from_be_bytes-to_be_bytes_2, from_be_bytes-to_be_bytes_4, from_be_bytes-to_be_bytes_8}
use Rattle.flow_model.specs.Words.{is_name_byte, is_name, is_text_byte, is_text}
use Rattle.flow_model.specs.declared.graphs.Value.{Value}
use Rattle.flow_model.specs.declared.graphs.Value.TheVariants.{Whole, Text}
use Rattle.flow_model.specs.declared.instances.Part.{Part}
use Rattle.flow_model.specs.declared.transactions.Setting.{Setting}
use Rattle.flow_txn.specs.Records.{u64_bytes, short_bytes, part_bytes, path_bytes, is_small, value_bytes, setting_bytes, settings_bytes}
use Rattle.flow_txn.specs.Ranges.{IsCounted, IsName, PartFits, PathFits, ItemFits, ValueFits, SettingFits, SettingsFit}
use Rattle.flow_txn.specs.Reading.{byte, front, number, both, by, checked, made, many, counted, short, name, text, part, parts, path, item, large, value_by, setting, settings}
use Rattle.flow_txn.proofs.Formats.{IsBytes, IsBytes-drop, IsBytes-take, some_is, guard_none, Takes, IsFormat, IsFormat-fits, IsFormat-spell, IsFormat-both, IsFormat-made, IsFormat-checked, IsFormat-by, IsFormat-many, IsFormat-if, IsFormat-none}

-- ---- bytes and numbers

abbrev pub tag_bytes : ℕ → List ℕ
tag_bytes n = n ∷ []

byte_takes : (bytes : List ℕ) (x : ℕ × List ℕ) → IsBytes bytes → byte bytes ≡ Some x → Takes tag_bytes (λ n. n < 2 ^ 8) bytes x
byte_takes [] x b e = absurd cc
byte_takes (v ∷ bytes) x b e = subst (λ (z : ℕ × List ℕ). Takes tag_bytes (λ n. n < 2 ^ 8) (v ∷ bytes) z) (some_is (v, bytes) x e) (record { parts = refl; fits = b 0; rest = λ i. b (suc i) })

pub byte_format : IsFormat tag_bytes (λ n. n < 2 ^ 8) byte
byte_format = record { takes = byte_takes; again = λ a rest h. refl }

pub front_format : (n : ℕ) → IsFormat (λ (s : List ℕ). s) (λ s. length s ≡ n) (front n)
front_format n = record {
  takes = λ bytes x b e.
      let g = guard_none (ltb (length bytes) n) (take n bytes, drop n bytes) x e in
      let long : n ≤ length bytes = ltb-false _ _ g.0 in
      let all : Takes (λ (s : List ℕ). s) (λ s. length s ≡ n) bytes (take n bytes, drop n bytes) = record { parts = sym (take-append-drop n bytes); fits = omega (arith, length-take n bytes); rest = IsBytes-drop n bytes b } in
      subst (λ (z : List ℕ × List ℕ). Takes (λ (s : List ℕ). s) (λ s. length s ≡ n) bytes z) g.1 all;
  again = λ a rest h.
      let long : ltb (length (a ++ rest)) n ≡ false = le-ltb _ _ (omega (arith, length-append a rest, h)) in
      rw (long, take_at a rest n h, drop_at a rest n h) refl;
}

pub record IsWide (w : Width) (limit : ℕ) : Type 0 where
  pub len : (n : ℕ) → length (to_be_bytes w n) ≡ byte_len w
  pub back : (bytes : List ℕ) → length bytes ≡ byte_len w → IsBytes bytes → to_be_bytes w (from_be_bytes w bytes) ≡ bytes
  pub again : (n : ℕ) → n < limit → from_be_bytes w (to_be_bytes w n) ≡ n
  pub below : (bytes : List ℕ) → IsBytes bytes → from_be_bytes w bytes < limit

pub number_format : (w : Width) (limit : ℕ) → IsWide w limit → IsFormat (to_be_bytes w) (λ n. n < limit) (number w)
number_format w limit wide = record {
  takes = λ bytes x b e.
      let g = guard_none (ltb (length bytes) (byte_len w)) (from_be_bytes w (take (byte_len w) bytes), drop (byte_len w) bytes) x e in
      let long : byte_len w ≤ length bytes = ltb-false _ _ g.0 in
      let front' : to_be_bytes w (from_be_bytes w (take (byte_len w) bytes)) ≡ take (byte_len w) bytes = wide.back (take (byte_len w) bytes) (omega (arith, length-take (byte_len w) bytes)) (IsBytes-take (byte_len w) bytes b) in
      let all : Takes (to_be_bytes w) (λ n. n < limit) bytes (from_be_bytes w (take (byte_len w) bytes), drop (byte_len w) bytes) = record {
        parts = sym (take-append-drop (byte_len w) bytes) ∙ ap (λ (s : List ℕ). s ++ drop (byte_len w) bytes) (sym front');
        fits = wide.below (take (byte_len w) bytes) (IsBytes-take (byte_len w) bytes b);
        rest = IsBytes-drop (byte_len w) bytes b;
      } in
      subst (λ (z : ℕ × List ℕ). Takes (to_be_bytes w) (λ n. n < limit) bytes z) g.1 all;
  again = λ n rest lt.
      let len = wide.len n in
      let long : ltb (length (to_be_bytes w n ++ rest)) (byte_len w) ≡ false = le-ltb _ _ (omega (arith, length-append (to_be_bytes w n) rest)) in
      rw (long, take_at (to_be_bytes w n) rest (byte_len w) len, drop_at (to_be_bytes w n) rest (byte_len w) len, wide.again n lt) refl;
}

pub u16_format : IsFormat (to_be_bytes w16) (λ n. n < 2 ^ 16) (number w16)
u16_format = number_format w16 (2 ^ 16) (record {
  len = λ n. refl;
  back = λ bytes len fits. be_bytes_2 bytes _ len fits refl;
  again = λ n lt. from_be_bytes-to_be_bytes_2 n lt;
  below = λ bytes fits. omega (arith, fits 0, fits 1);
})

pub u32_format : IsFormat (to_be_bytes w32) (λ n. n < 2 ^ 32) (number w32)
u32_format = number_format w32 (2 ^ 32) (record {
  len = λ n. refl;
  back = λ bytes len fits. be_bytes_4 bytes _ len fits refl;
  again = λ n lt. from_be_bytes-to_be_bytes_4 n lt;
  below = λ bytes fits. omega (arith, fits 0, fits 1, fits 2, fits 3);
})

pub u64_format : IsFormat u64_bytes (λ n. n < 2 ^ 64) (number w64)
u64_format = number_format w64 (2 ^ 64) (record {
  len = λ n. refl;
  back = λ bytes len fits. be_bytes_8 bytes _ len fits refl;
  again = λ n lt. from_be_bytes-to_be_bytes_8 n lt;
  below = λ bytes fits. omega (arith, fits 0, fits 1, fits 2, fits 3, fits 4, fits 5, fits 6, fits 7);
})

pub counted_format : IsFormat u64_bytes IsCounted counted
unfolding counted
counted_format = IsFormat-fits u64_bytes (λ n. (n < 2 ^ 64) × (ltb 0 n ≡ true)) IsCounted counted
    (λ n h. (ltb-true 0 n h.1, h.0))
    (λ n h. (h.1, lt-ltb 0 n h.0))
    (IsFormat-checked (λ n. ltb 0 n) u64_bytes (λ n. n < 2 ^ 64) (number w64) u64_format)

-- ---- names and texts

short_same : (s : List ℕ) → length s < 2 ^ 8 → length s ∷ s ≡ short_bytes s
short_same s h = let e : length s ≡ min (length s) 255 = omega arith in ap (λ (n : ℕ). n ∷ s) e

pub short_format : IsFormat short_bytes (λ s. length s < 2 ^ 8) short
unfolding short
short_format = IsFormat-spell (λ s. tag_bytes (length s) ++ s) short_bytes (λ s. length s < 2 ^ 8) short short_same
    (IsFormat-by length tag_bytes (λ s. s) (λ n. n < 2 ^ 8) (λ s. length s < 2 ^ 8) byte front byte_format
    (λ n lt. IsFormat-fits (λ s. s) (λ s. length s ≡ n) (λ s. (length s < 2 ^ 8) × (length s ≡ n)) (front n) (λ s e. (omega (arith, e, lt), e)) (λ s h. h.1) (front_format n))
    (λ s h. h))

name_len : (s : List ℕ) → IsName s → length s < 2 ^ 8
name_len [] e = omega arith
name_len (b ∷ s) e =
    let p = and_parts (is_ascii_alphabetic b && leb (length s) 31) (list_all is_name_byte s) e in
    let q = and_parts (is_ascii_alphabetic b) (leb (length s) 31) p.0 in
    let h : length s ≤ 31 = leb-true (length s) 31 q.1 in
    omega arith

pub name_format : IsFormat short_bytes IsName name
unfolding name
name_format = IsFormat-fits short_bytes (λ s. (length s < 2 ^ 8) × (is_name s ≡ true)) IsName name (λ s h. h.1) (λ s h. (name_len s h, h)) (IsFormat-checked is_name short_bytes (λ s. length s < 2 ^ 8) short short_format)

text_len : (s : List ℕ) → is_text s ≡ true → length s < 2 ^ 8
text_len s e =
    let p = and_parts (leb (length s) 255) (list_all is_text_byte s) e in
    let h : length s ≤ 255 = leb-true (length s) 255 p.0 in
    omega arith

pub text_format : IsFormat short_bytes (λ s. is_text s ≡ true) text
unfolding text
text_format = IsFormat-fits short_bytes (λ s. (length s < 2 ^ 8) × (is_text s ≡ true)) (λ s. is_text s ≡ true) text (λ s h. h.1) (λ s h. (text_len s h, h)) (IsFormat-checked is_text short_bytes (λ s. length s < 2 ^ 8) short short_format)

-- ---- paths

pub part_format : IsFormat part_bytes PartFits part
unfolding part
part_format = IsFormat-made (λ (x : List ℕ × ℕ). record { name = x.0; attempt = x.1 }) (λ x. short_bytes x.0 ++ u64_bytes x.1) part_bytes (λ x. IsName x.0 × IsCounted x.1) PartFits (both name counted)
    (λ x h. (refl, h))
    (λ q h. ((q.name, q.attempt), refl, h))
    (IsFormat-both short_bytes u64_bytes IsName IsCounted name counted name_format counted_format)

-- so many parts, after their count
abbrev parts_bytes : List Part → List ℕ
parts_bytes qs = min (length qs) 255 ∷ flat_map part_bytes qs

abbrev PartsFit : List Part → Type 0
PartsFit qs = (length qs < 2 ^ 8) × All PartFits qs

parts_same : (qs : List Part) → PartsFit qs → length qs ∷ flat_map part_bytes qs ≡ parts_bytes qs
parts_same qs h = let lt = h.0 in let e : length qs ≡ min (length qs) 255 = omega arith in ap (λ (n : ℕ). n ∷ flat_map part_bytes qs) e

parts_format : IsFormat parts_bytes PartsFit parts
unfolding parts
parts_format = IsFormat-spell (λ qs. tag_bytes (length qs) ++ flat_map part_bytes qs) parts_bytes PartsFit parts parts_same
    (IsFormat-by length tag_bytes (flat_map part_bytes) (λ n. n < 2 ^ 8) PartsFit byte (many part) byte_format
    (λ n lt. IsFormat-fits (flat_map part_bytes) (λ qs. AllByRecursion PartFits qs × (length qs ≡ n)) (λ qs. PartsFit qs × (length qs ≡ n)) (many part n)
    (λ qs h. ((omega (arith, h.1, lt), All-from_recursion PartFits qs h.0), h.1))
    (λ qs h. (recursion_from_All PartFits qs h.0.1, h.1))
    (IsFormat-many part_bytes PartFits part part_format n))
    (λ qs h. h.0))

pub path_format : IsFormat path_bytes PathFits path
unfolding path
path_format = IsFormat-made (λ (x : ℕ × List Part). record { root = x.0; parts = x.1 }) (λ x. u64_bytes x.0 ++ parts_bytes x.1) path_bytes (λ x. IsCounted x.0 × PartsFit x.1) PathFits (both counted parts)
    (λ x h. (refl, (h.0, h.1.0, h.1.1)))
    (λ p h. ((p.root, p.parts), refl, (h.0, (h.1, h.2))))
    (IsFormat-both u64_bytes parts_bytes IsCounted PartsFit counted parts counted_format parts_format)

pub item_format : IsFormat path_bytes ItemFits item
unfolding item
item_format = IsFormat-fits path_bytes (λ p. PathFits p × (ltb 0 (length p.parts) ≡ true)) ItemFits item
    (λ p h. (h.0, ltb-true 0 (length p.parts) h.1))
    (λ p h. (h.0, lt-ltb 0 (length p.parts) h.1))
    (IsFormat-checked (λ p. ltb 0 (length p.parts)) path_bytes PathFits path path_format)

-- ---- values

small_fits : (z : ℤ) → is_small z ≡ true → FitsSigned w32 z
small_fits (pos n) e = record { sfits = ltb-true n (2 ^ 31) e }
small_fits (negsuc n) e = record { sfits = ltb-true n (2 ^ 31) e }

small_wide : (z : ℤ) → is_small z ≡ true → FitsSigned w64 z
small_wide (pos n) e = let h = ltb-true n (2 ^ 31) e in record { sfits = omega arith }
small_wide (negsuc n) e = let h = ltb-true n (2 ^ 31) e in record { sfits = omega arith }

small_bits : (z : ℤ) → is_small z ≡ true → cast_unsigned w32 z < 2 ^ 32
small_bits (pos n) e = let h = ltb-true n (2 ^ 31) e in omega arith
small_bits (negsuc n) e = omega arith

bits_small : (n : ℕ) → n < 2 ^ 32 → is_small (cast_signed w32 n) ≡ true
bits_small n h = elim (cases_lt n (2 ^ 31)) [
  | inl lt ↦ rw (lt-ltb n (2 ^ 31) lt) (lt-ltb n (2 ^ 31) lt)
  | inr le ↦ rw (le-ltb n (2 ^ 31) le) (lt-ltb (2 ^ 32 - suc n) (2 ^ 31) (omega arith))
]

bits_wide : (n : ℕ) → n < 2 ^ 64 → FitsSigned w64 (cast_signed w64 n)
bits_wide n h = elim (cases_lt n (2 ^ 63)) [
  | inl lt ↦ rw (lt-ltb n (2 ^ 63) lt) (record { sfits = lt })
  | inr le ↦ rw (le-ltb n (2 ^ 63) le) (record { sfits = omega arith })
]

wide_bits : (z : ℤ) → FitsSigned w64 z → cast_unsigned w64 z < 2 ^ 64
wide_bits (pos n) f = let h = f.sfits in omega arith
wide_bits (negsuc n) f = omega arith

-- what stands before a number
abbrev whole_tag : Bool → ℕ
whole_tag true = 1
whole_tag false = 3

-- what stands before a value, and behind that
abbrev value_tag : Value → ℕ
value_tag (Whole n) = whole_tag (is_small n)
value_tag (Text t) = 2

abbrev value_rest : Value → List ℕ
value_rest (Whole n) = cond (is_small n) (to_be_bytes w32 (cast_unsigned w32 n)) (u64_bytes (cast_unsigned w64 n))
value_rest (Text t) = short_bytes t

abbrev ValueTagged : ℕ → Value → Type 0
ValueTagged tag v = ValueFits v × (value_tag v ≡ tag)

value_same : (v : Value) → ValueFits v → tag_bytes (value_tag v) ++ value_rest v ≡ value_bytes v
value_same (Whole n) h = whole (is_small n)
  where
    whole : (b : Bool) → whole_tag b ∷ cond b (to_be_bytes w32 (cast_unsigned w32 n)) (u64_bytes (cast_unsigned w64 n)) ≡ cond b (1 ∷ to_be_bytes w32 (cast_unsigned w32 n)) (3 ∷ u64_bytes (cast_unsigned w64 n))
    whole true = refl
    whole false = refl
value_same (Text t) h = refl

-- the number of a value with this tag
tag_small : (b : Bool) → whole_tag b ≡ 1 → b ≡ true
tag_small true e = refl
tag_small false e = absurd (omega arith)

tag_large : (b : Bool) → whole_tag b ≡ 3 → b ≡ false
tag_large true e = absurd (omega arith)
tag_large false e = refl

tag_two : (b : Bool) → whole_tag b ≡ 2 → ⊥
tag_two true e = omega arith
tag_two false e = omega arith

small_back : (v : Value) → ValueTagged 1 v → (n : ℕ) × (Whole (cast_signed w32 n) ≡ v) × (n < 2 ^ 32)
small_back (Whole z) h =
    let s = tag_small (is_small z) h.1 in
    (cast_unsigned w32 z, ap (λ (y : ℤ). Whole y) (to_z-of_z w32 z (small_fits z s)), small_bits z s)
small_back (Text t) h = absurd (omega (arith, h.1))

small_value : IsFormat value_rest (ValueTagged 1) (made (λ n. Whole (cast_signed w32 n)) (number w32))
small_value = IsFormat-made (λ n. Whole (cast_signed w32 n)) (to_be_bytes w32) value_rest (λ n. n < 2 ^ 32) (ValueTagged 1) (number w32)
    (λ n h. (rw (bits_small n h, of_z-to_z w32 n h) refl, (small_wide (cast_signed w32 n) (bits_small n h), rw (bits_small n h) refl)))
    small_back
    u32_format

text_back : (v : Value) → ValueTagged 2 v → (t : List ℕ) × (Text t ≡ v) × (is_text t ≡ true)
text_back (Whole z) h = absurd (tag_two (is_small z) h.1)
text_back (Text t) h = (t, refl, h.0)

text_value : IsFormat value_rest (ValueTagged 2) (made (λ t. Text t) text)
text_value = IsFormat-made (λ t. Text t) short_bytes value_rest (λ t. is_text t ≡ true) (ValueTagged 2) text (λ t h. (refl, (h, refl))) text_back text_format

bits_format : IsFormat (λ z. u64_bytes (cast_unsigned w64 z)) (FitsSigned w64) (made (λ n. cast_signed w64 n) (number w64))
bits_format = IsFormat-made (λ n. cast_signed w64 n) u64_bytes (λ z. u64_bytes (cast_unsigned w64 z)) (λ n. n < 2 ^ 64) (FitsSigned w64) (number w64)
    (λ n h. (ap u64_bytes (of_z-to_z w64 n h), bits_wide n h))
    (λ z h. (cast_unsigned w64 z, to_z-of_z w64 z h, wide_bits z h))
    u64_format

large_back : (v : Value) → ValueTagged 3 v → (z : ℤ) × (Whole z ≡ v) × (FitsSigned w64 z × (not (is_small z) ≡ true))
large_back (Whole z) h = (z, refl, (h.0, ap not (tag_large (is_small z) h.1)))
large_back (Text t) h = absurd (omega (arith, h.1))

large_value : IsFormat value_rest (ValueTagged 3) large
unfolding large
large_value = IsFormat-made (λ z. Whole z) (λ z. u64_bytes (cast_unsigned w64 z)) value_rest (λ z. FitsSigned w64 z × (not (is_small z) ≡ true)) (ValueTagged 3) (checked (λ n. not (is_small n)) (made (λ n. cast_signed w64 n) (number w64)))
    (λ z h. let s = not-true (is_small z) h.1 in (rw s refl, (h.0, rw s refl)))
    large_back
    (IsFormat-checked (λ n. not (is_small n)) (λ z. u64_bytes (cast_unsigned w64 z)) (FitsSigned w64) (made (λ n. cast_signed w64 n) (number w64)) bits_format)

tag_known : (b : Bool) → (1 ≤ whole_tag b) × (whole_tag b ≤ 3)
tag_known true = (omega arith, omega arith)
tag_known false = (omega arith, omega arith)

value_known : (v : Value) → (1 ≤ value_tag v) × (value_tag v ≤ 3)
value_known (Whole z) = tag_known (is_small z)
value_known (Text t) = (omega arith, omega arith)

value_by_format : (tag : ℕ) → IsFormat value_rest (ValueTagged tag) (value_by tag)
unfolding value_by
value_by_format tag =
    IsFormat-if value_rest ValueTagged 1 tag (made (λ n. Whole (cast_signed w32 n)) (number w32)) _ small_value (λ n1.
    IsFormat-if value_rest ValueTagged 2 tag (made (λ t. Text t) text) _ text_value (λ n2.
    IsFormat-if value_rest ValueTagged 3 tag large (λ bytes. None) large_value (λ n3.
    IsFormat-none value_rest (ValueTagged tag) (λ v h. let k = value_known v in let e = h.1 in omega arith))))

pub value_format : IsFormat value_bytes ValueFits (by byte value_by)
value_format = IsFormat-spell (λ v. tag_bytes (value_tag v) ++ value_rest v) value_bytes ValueFits (by byte value_by) value_same
    (IsFormat-by value_tag tag_bytes value_rest (λ n. n < 2 ^ 8) ValueFits byte value_by byte_format (λ tag lt. value_by_format tag) (λ v h. let k = value_known v in omega arith))

-- ---- settings

pub setting_format : IsFormat setting_bytes SettingFits setting
unfolding setting
setting_format = IsFormat-made (λ (x : ℕ × Value). record { leaf = x.0; value = x.1 }) (λ x. to_be_bytes w16 x.0 ++ value_bytes x.1) setting_bytes (λ x. (x.0 < 2 ^ 16) × ValueFits x.1) SettingFits (both (number w16) (by byte value_by))
    (λ x h. (refl, h))
    (λ s h. ((s.leaf, s.value), refl, h))
    (IsFormat-both (to_be_bytes w16) value_bytes (λ n. n < 2 ^ 16) ValueFits (number w16) (by byte value_by) u16_format value_format)

settings_same : (ss : List Setting) → SettingsFit ss → to_be_bytes w16 (length ss) ++ flat_map setting_bytes ss ≡ settings_bytes ss
settings_same ss h = let lt = h.0 in let e : length ss ≡ min (length ss) (2 ^ 16 - 1) = omega arith in ap (λ (n : ℕ). to_be_bytes w16 n ++ flat_map setting_bytes ss) e

pub settings_format : IsFormat settings_bytes SettingsFit settings
unfolding settings
settings_format = IsFormat-spell (λ ss. to_be_bytes w16 (length ss) ++ flat_map setting_bytes ss) settings_bytes SettingsFit settings settings_same
    (IsFormat-by length (to_be_bytes w16) (flat_map setting_bytes) (λ n. n < 2 ^ 16) SettingsFit (number w16) (many setting) u16_format
    (λ n lt. IsFormat-fits (flat_map setting_bytes) (λ ss. AllByRecursion SettingFits ss × (length ss ≡ n)) (λ ss. SettingsFit ss × (length ss ≡ n)) (many setting n)
    (λ ss h. ((omega (arith, h.1, lt), All-from_recursion SettingFits ss h.0), h.1))
    (λ ss h. (recursion_from_All SettingFits ss h.0.1, h.1))
    (IsFormat-many setting_bytes SettingFits setting setting_format n))
    (λ ss h. h.0))
