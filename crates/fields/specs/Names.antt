-- The names of the parts of a record. Those of fields 07 to 18 come twice: as they stand here for a message's own
-- fields, and `amended`, 32 more, for the same fields within field 22.
use Rattle.std.specs.Prelude.{ℕ}

abbrev pub aircraft : ℕ
aircraft = 1

abbrev pub code : ℕ
code = 2

abbrev pub rules : ℕ
rules = 3

abbrev pub flight : ℕ
flight = 4

abbrev pub count : ℕ
count = 5

abbrev pub model : ℕ
model = 6

abbrev pub wake : ℕ
wake = 7

abbrev pub equipment : ℕ
equipment = 8

abbrev pub surveillance : ℕ
surveillance = 9

abbrev pub departure : ℕ
departure = 10

abbrev pub time : ℕ
time = 11

abbrev pub speed : ℕ
speed = 12

abbrev pub level : ℕ
level = 13

abbrev pub route : ℕ
route = 14

abbrev pub destination : ℕ
destination = 15

abbrev pub elapsed : ℕ
elapsed = 16

abbrev pub alternate : ℕ
alternate = 17

abbrev pub alternate2 : ℕ
alternate2 = 18

abbrev pub indicator : ℕ
indicator = 19

abbrev pub other : ℕ
other = 20

abbrev pub amended : ℕ
amended = 32

-- field 14
abbrev pub point : ℕ
point = 64

abbrev pub over : ℕ
over = 65

abbrev pub crossing : ℕ
crossing = 66

abbrev pub second : ℕ
second = 67

abbrev pub sense : ℕ
sense = 68

-- fields 31 and 32, and what follows "RMK/" in an LRM
abbrev pub sector : ℕ
sector = 69

abbrev pub track : ℕ
track = 70

abbrev pub reason : ℕ
reason = 71

-- the message number, and the reference
abbrev pub sender : ℕ
sender = 72

abbrev pub receiver : ℕ
receiver = 73

abbrev pub number : ℕ
number = 74

abbrev pub reference_sender : ℕ
reference_sender = 75

abbrev pub reference_receiver : ℕ
reference_receiver = 76

abbrev pub reference_number : ℕ
reference_number = 77
