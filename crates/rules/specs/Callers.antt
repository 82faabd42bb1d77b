-- Writing the callers of form 1 and of old office scripts: r of its type is put in byte 1 of each recursion, which
-- holds the group that its unrolled calls are made as (manual, 7.12). Scripts have records of 6 bytes over types of 4,
-- old office scripts of 10 over types of 6. Whatever their widths, records begin with the same six bytes, and types
-- with the same four.
use Rattle.std.specs.Prelude.{Bool, if◌then◌else◌, ◌&&◌, ◌++◌, ℕ, zero, suc, ◌+◌, ◌*◌, ◌/◌, nat_eq, nat_lt, length}
use Rattle.std.specs.Prelude.{take, drop, set}
use Rattle.rules.specs.Answer.{Bytes, byte}
use Rattle.rules.specs.Limits.{type_width, old_type_width, old_script_width, office_width}

-- the number of records of a script of an earlier form
abbrev pub old_records : Bytes → ℕ
old_records s = length s / old_script_width

-- the kind of record i of such a script
abbrev pub old_kind : Bytes → ℕ → ℕ
old_kind s i = byte s (old_script_width * i)

-- byte 1 of record i of such a script
abbrev pub old_r : Bytes → ℕ → ℕ
old_r s i = byte s (old_script_width * i + 1)

-- Is a record of this kind, with this number, a recursion of a type of the table, whose records have this width?
abbrev pub recursion_of_type : ℕ → Bytes → ℕ → ℕ → Bool
recursion_of_type type_bytes t kind n = nat_eq kind 11 && nat_lt n (length t / type_bytes)

-- byte 1 of a record of this kind, r and number: r of its type in a recursion
abbrev pub caller : ℕ → Bytes → ℕ → ℕ → ℕ → ℕ
caller type_bytes t kind r n = if recursion_of_type type_bytes t kind n then byte t (type_bytes * n + 1) else r

-- the number of the first record
abbrev pub first_number : Bytes → ℕ
first_number s = byte s 4 + 256 * byte s 5

-- The script with that in byte 1 of each of its first n records.
unfoldable pub put_callers : ℕ → ℕ → Bytes → ℕ → Bytes → Bytes
put_callers type_bytes width t zero s = s
put_callers type_bytes width t (suc n) s =
    set (take width s) 1 (caller type_bytes t (byte s 0) (byte s 1) (first_number s)) ++ put_callers type_bytes width t n (drop width s)

-- how many of them are so written
unfoldable pub count_callers : ℕ → ℕ → Bytes → ℕ → Bytes → ℕ
count_callers type_bytes width t zero s = 0
count_callers type_bytes width t (suc n) s =
    (if recursion_of_type type_bytes t (byte s 0) (first_number s) then 1 else 0) + count_callers type_bytes width t n (drop width s)

-- A script with r of its type in byte 1 of each recursion. Nothing is asked: a record of another kind, one whose number
-- names no record of the types table, and a last record that is cut short stay as they are.
abbrev pub write_callers_of : ℕ → ℕ → Bytes → Bytes → Bytes
write_callers_of type_bytes width t s = put_callers type_bytes width t (length s / width) s

-- how many recursions are so written
abbrev pub callers_written_of : ℕ → ℕ → Bytes → Bytes → ℕ
callers_written_of type_bytes width t s = count_callers type_bytes width t (length s / width) s

-- the same of a script of an earlier form, over types of that form
abbrev pub write_callers : Bytes → Bytes → Bytes
write_callers t s = write_callers_of old_type_width old_script_width t s

-- how many of its recursions are written
abbrev pub callers_written : Bytes → Bytes → ℕ
callers_written t s = callers_written_of old_type_width old_script_width t s

-- the same of an old office script, over types of the present form
abbrev pub write_office_callers : Bytes → Bytes → Bytes
write_office_callers t s = write_callers_of type_width office_width t s

-- how many of its recursions are written
abbrev pub office_callers_written : Bytes → Bytes → ℕ
office_callers_written t s = callers_written_of type_width office_width t s
