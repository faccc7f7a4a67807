-- 01, 1.2 to 1.7: the module file, by accessors. m is the file's bytes; f is a function, e an expression, t a statement, j a place among
-- a record's operands. Names that begin with s- are of statements.
use Rattle.std.specs.Prelude.{ℕ, zero, suc, ◌+◌, ◌*◌, List}
use Rattle.definitions.specs.Bytes.{byte, be16, be32}

-- 1.2 Header, 10 bytes: u32 length of everything after this field; u8 version; u8 capabilities; u16 globals; u16 functions
unfoldable pub length_field : List ℕ → ℕ
length_field m = be32 m 0

unfoldable pub version : List ℕ → ℕ
version m = byte m 4

unfoldable pub capabilities : List ℕ → ℕ
capabilities m = byte m 5

unfoldable pub globals : List ℕ → ℕ
globals m = be16 m 6

unfoldable pub functions : List ℕ → ℕ
functions m = be16 m 8

-- then one space byte for each global
unfoldable pub space : List ℕ → ℕ → ℕ
space m g = byte m (10 + g)

-- then one sheet for each function, which begins where the one before it ended
unfoldable pub sheet : List ℕ → ℕ → ℕ
sheet m zero = 10 + globals m
sheet m (suc f) = let s = sheet m f in s + 4 + be32 m s

-- 1.3 A sheet begins with 17 bytes: u32 length of everything after this field in the sheet; u8 flag; then six u16 counts
unfoldable pub sheet_length : List ℕ → ℕ → ℕ
sheet_length m f = be32 m (sheet m f)

unfoldable pub flag : List ℕ → ℕ → ℕ
flag m f = byte m (sheet m f + 4)

unfoldable pub arguments : List ℕ → ℕ → ℕ
arguments m f = be16 m (sheet m f + 5)

unfoldable pub expressions : List ℕ → ℕ → ℕ
expressions m f = be16 m (sheet m f + 7)

unfoldable pub operands : List ℕ → ℕ → ℕ
operands m f = be16 m (sheet m f + 9)

unfoldable pub statements : List ℕ → ℕ → ℕ
statements m f = be16 m (sheet m f + 11)

unfoldable pub initialisers : List ℕ → ℕ → ℕ
initialisers m f = be16 m (sheet m f + 13)

unfoldable pub named : List ℕ → ℕ → ℕ
named m f = be16 m (sheet m f + 15)

-- the length field of a sheet is 13 plus the bytes of its six parts
unfoldable pub parts_length : List ℕ → ℕ → ℕ
parts_length m f =
    13 + arguments m f + 8 * expressions m f + 2 * operands m f + 10 * statements m f + 2 * initialisers m f + 2 * named m f

-- the parts follow in the order of the counts: arguments, 1 byte each
unfoldable pub argument_byte : List ℕ → ℕ → ℕ → ℕ
argument_byte m f a = byte m (sheet m f + 17 + a)

-- 1.5 Expression record, 8 bytes: u8 kind, u8 sub, u16 number, u16 first operand, u16 operand count
unfoldable pub record_at : List ℕ → ℕ → ℕ → ℕ
record_at m f e = sheet m f + 17 + arguments m f + 8 * e

unfoldable pub kind : List ℕ → ℕ → ℕ → ℕ
kind m f e = byte m (record_at m f e)

unfoldable pub sub : List ℕ → ℕ → ℕ → ℕ
sub m f e = byte m (record_at m f e + 1)

unfoldable pub number : List ℕ → ℕ → ℕ → ℕ
number m f e = be16 m (record_at m f e + 2)

unfoldable pub first_operand : List ℕ → ℕ → ℕ → ℕ
first_operand m f e = be16 m (record_at m f e + 4)

unfoldable pub operand_count : List ℕ → ℕ → ℕ → ℕ
operand_count m f e = be16 m (record_at m f e + 6)

-- the pool of operands, 2 bytes each
unfoldable pub pool : List ℕ → ℕ → ℕ
pool m f = record_at m f (expressions m f)

unfoldable pub pooled : List ℕ → ℕ → ℕ → ℕ
pooled m f p = be16 m (pool m f + 2 * p)

-- its operands are the `count` entries of the pool from `first` on
unfoldable pub operand : List ℕ → ℕ → ℕ → ℕ → ℕ
operand m f e j = pooled m f (first_operand m f e + j)

-- 1.6 Statement record, 10 bytes: u8 kind, u8 sub, u16 number, u16 end, u16 first operand, u16 operand count
unfoldable pub s_record_at : List ℕ → ℕ → ℕ → ℕ
s_record_at m f t = pool m f + 2 * operands m f + 10 * t

unfoldable pub s_kind : List ℕ → ℕ → ℕ → ℕ
s_kind m f t = byte m (s_record_at m f t)

unfoldable pub s_sub : List ℕ → ℕ → ℕ → ℕ
s_sub m f t = byte m (s_record_at m f t + 1)

unfoldable pub s_number : List ℕ → ℕ → ℕ → ℕ
s_number m f t = be16 m (s_record_at m f t + 2)

unfoldable pub s_end : List ℕ → ℕ → ℕ → ℕ
s_end m f t = be16 m (s_record_at m f t + 4)

unfoldable pub s_first : List ℕ → ℕ → ℕ → ℕ
s_first m f t = be16 m (s_record_at m f t + 6)

unfoldable pub s_count : List ℕ → ℕ → ℕ → ℕ
s_count m f t = be16 m (s_record_at m f t + 8)

unfoldable pub s_operand : List ℕ → ℕ → ℕ → ℕ → ℕ
s_operand m f t j = pooled m f (s_first m f t + j)

-- 1.7 Operands, initialisers and named expressions are u16 expression numbers
unfoldable pub initialiser : List ℕ → ℕ → ℕ → ℕ
initialiser m f i = be16 m (s_record_at m f (statements m f) + 2 * i)

unfoldable pub named_at : List ℕ → ℕ → ℕ → ℕ
named_at m f i = be16 m (s_record_at m f (statements m f) + 2 * initialisers m f + 2 * i)

-- operand 65535 means absent
unfoldable pub absent : ℕ
absent = 65535
