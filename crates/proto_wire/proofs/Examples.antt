use Rattle.std.specs.Prelude.{◌≡◌, [], ◌∷◌, ◌++◌, Ok, Err, refl, replicate}
use Rattle.proto_wire.specs.declared.field.WireFault.TheVariants.{Cut, LongVarint, FieldZero, GroupWire, BadWire}
use Rattle.proto_wire.specs.Varint.{varint, varint_at, groups, number_in}
use Rattle.proto_wire.specs.Fields.{Varint, Block, payload_field, field_at, sequence_behind, fields_of}
use Rattle.proto_wire.specs.Written.{message_field}

v0 : varint 0 ≡ 0 ∷ []
unfolding groups
v0 = refl

v300 : varint 300 ≡ 172 ∷ 2 ∷ []
unfolding groups
v300 = refl

vmax : varint 18446744073709551615 ≡ replicate 9 255 ++ 1 ∷ []
unfolding groups
vmax = refl

r300 : varint_at 7 (172 ∷ 2 ∷ 9 ∷ []) ≡ Ok (300, 2)
unfolding number_in
r300 = refl

rmax : varint_at 7 (replicate 9 255 ++ 1 ∷ 3 ∷ []) ≡ Ok (18446744073709551615, 10)
unfolding number_in
rmax = refl

rlong : varint_at 7 (replicate 9 255 ++ 2 ∷ 3 ∷ []) ≡ Err (LongVarint 7)
unfolding number_in
rlong = refl

rover : varint_at 7 (replicate 9 128 ++ 0 ∷ 3 ∷ []) ≡ Ok (0, 10)
unfolding number_in
rover = refl

rcut : varint_at 7 (replicate 9 128) ≡ Err (Cut 7)
unfolding number_in
rcut = refl

f1 : fields_of (16 ∷ 3 ∷ 26 ∷ 2 ∷ 5 ∷ 6 ∷ []) ≡ Ok (record { number = 2; content = Varint 3; at = 0; content_at = 1; next = 2 } ∷ record { number = 3; content = Block (5 ∷ 6 ∷ []); at = 2; content_at = 4; next = 6 } ∷ [])
unfolding number_in payload_field field_at sequence_behind
f1 = refl

f2 : fields_of (18 ∷ 2 ∷ 10 ∷ 5 ∷ []) ≡ Ok (record { number = 2; content = Block (10 ∷ 5 ∷ []); at = 0; content_at = 2; next = 4 } ∷ [])
unfolding number_in payload_field field_at sequence_behind
f2 = refl

f3 : fields_of (18 ∷ 5 ∷ 10 ∷ []) ≡ Err (Cut 0)
unfolding number_in payload_field field_at sequence_behind
f3 = refl

f4 : fields_of (8 ∷ 1 ∷ 3 ∷ 0 ∷ []) ≡ Err (FieldZero 2)
unfolding number_in payload_field field_at sequence_behind
f4 = refl

f5 : fields_of (11 ∷ []) ≡ Err (GroupWire 0)
unfolding number_in payload_field field_at sequence_behind
f5 = refl

f6 : fields_of (9 ∷ replicate 7 1) ≡ Err (Cut 0)
unfolding number_in payload_field field_at sequence_behind
f6 = refl

f7 : fields_of (8 ∷ 1 ∷ 15 ∷ []) ≡ Err (BadWire 2)
unfolding number_in payload_field field_at sequence_behind
f7 = refl

m1 : message_field 2 [] ≡ 18 ∷ 0 ∷ []
unfolding groups
m1 = refl
