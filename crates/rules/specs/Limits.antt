-- The widths and limits of every file and buffer, each under one name (manual, 8).
use Rattle.std.specs.Prelude.{ℕ, ◌*◌}
use Rattle.calculus.specs.Types.{type_limit}

-- bytes of a row of a groups table
abbrev pub row_width : ℕ
row_width = 4

-- bytes of a type record
abbrev pub type_width : ℕ
type_width = 6

-- bytes of a script record
abbrev pub script_width : ℕ
script_width = 8

-- bytes of a sheet record
abbrev pub sheet_width : ℕ
sheet_width = 6

-- bytes of a type record of forms 1 and 2, which had no creators
abbrev pub old_type_width : ℕ
old_type_width = 4

-- bytes of a script record of forms 1 and 2
abbrev pub old_script_width : ℕ
old_script_width = 6

-- bytes of a record of an old office script
abbrev pub office_width : ℕ
office_width = 10

-- the most records of an old office script
abbrev pub office_limit : ℕ
office_limit = 6000

-- the most rows of a groups table
abbrev pub group_limit : ℕ
group_limit = 32

-- the most records of a types table
abbrev pub table_limit : ℕ
table_limit = 4096

-- the most records of a script
abbrev pub script_limit : ℕ
script_limit = 8192

-- the greatest depth of a record
abbrev pub depth_limit : ℕ
depth_limit = 256

-- bytes of a word of a studio's table
abbrev pub word_width : ℕ
word_width = 12

-- the words of the table, one for each kind of sheet record
abbrev pub word_limit : ℕ
word_limit = 7

-- the length of the table: 84 bytes
abbrev pub words_length : ℕ
words_length = word_limit * word_width

-- bytes of a script in a studio's list: the index of its type
abbrev pub listed_width : ℕ
listed_width = 2

-- bytes of an entry of a list of amendments: two indexes of scripts
abbrev pub entry_width : ℕ
entry_width = 4

-- the most scripts of a studio's list
abbrev pub listed_limit : ℕ
listed_limit = 65535

-- stands for no script, where an index of one is asked for
abbrev pub no_script : ℕ
no_script = 65535

-- the last question: 42, of an amendment's type
abbrev pub last_question : ℕ
last_question = 42

-- Question 1's least length of the answer buffer: one type, 378 bytes.
abbrev pub answer_length : ℕ
answer_length = type_limit * type_width

-- Question 1's least length of the work buffer: a type for each level of a script, 96,768 bytes.
abbrev pub work_length : ℕ
work_length = depth_limit * answer_length

-- the report's budget
abbrev pub report_budget : ℕ
report_budget = 1000

-- the length of each of the report's run buffers: 65,536 bytes, the longest script
abbrev pub report_buffer : ℕ
report_buffer = script_limit * script_width

-- the length of the report's sheet buffer: 8,192 sheet records, and a value has no more
abbrev pub report_sheet : ℕ
report_sheet = script_limit * sheet_width
