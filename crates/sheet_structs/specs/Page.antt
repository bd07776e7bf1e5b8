-- The layout sheet: the bytes of a page that are the same for every file.
-- Assumes nothing.
use Rattle.std.specs.Prelude.{List, ◌++◌, ℕ}
use Rattle.program_output.specs.Bytes.{ascii}

-- ---- the page
-- what stands before its rules of style
abbrev pub opening : List ℕ
opening =
    ascii "<!DOCTYPE html>\n"
    ++ ascii "<html lang=\"en\">\n"
    ++ ascii "<head>\n"
    ++ ascii "<meta charset=\"utf-8\">\n"
    ++ ascii "<meta name=\"viewport\" content=\"width=device-width, initial-scale=1\">\n"
    ++ ascii "<title>Layout sheet</title>\n"

-- its rules of style: for text and tables, and for the eight colours of members
abbrev pub table_style : List ℕ
table_style =
    ascii "<style>\n"
    ++ ascii "body { font: 16px/1.4 sans-serif; color: #000; background: #fff; max-width: 52em; margin: 1em auto; padding: 0 .5em; }\n"
    ++ ascii "h2 { margin: 1.6em 0 .2em; }\n"
    ++ ascii "p { margin: 0 0 .6em; }\n"
    ++ ascii "table { border-collapse: collapse; width: 100%; margin: 0 0 1em; }\n"
    ++ ascii ".members th, .members td { border-bottom: 1px solid #999; padding: .15em .5em; text-align: left; font-size: .9em; }\n"
    ++ ascii ".members .n { text-align: right; }\n"
    ++ ascii ".bytes { table-layout: fixed; -webkit-print-color-adjust: exact; print-color-adjust: exact; }\n"
    ++ ascii ".bytes th { font-size: .7em; font-weight: normal; }\n"
    ++ ascii ".bytes th:first-child { width: 3.5em; text-align: right; padding-right: .4em; }\n"
    ++ ascii ".bytes td { border: 1px solid #000; height: 1.9em; padding: 0 .1em; font-size: .8em; "
    ++ ascii "text-align: center; overflow: hidden; white-space: nowrap; text-overflow: ellipsis; }\n"
    ++ ascii ".gap { background: repeating-linear-gradient(45deg, #fff 0 4px, #777 4px 6px); }\n"

abbrev pub colour_style : List ℕ
colour_style =
    ascii ".c0 { background: #bfe3ff; }\n"
    ++ ascii ".c1 { background: #ffe0b3; }\n"
    ++ ascii ".c2 { background: #c9f0c0; }\n"
    ++ ascii ".c3 { background: #f6c6d8; }\n"
    ++ ascii ".c4 { background: #fff3a6; }\n"
    ++ ascii ".c5 { background: #dccdf5; }\n"
    ++ ascii ".c6 { background: #b8eee6; }\n"
    ++ ascii ".c7 { background: #e3e3e3; }\n"

-- what stands between them and the title
abbrev pub before_title : List ℕ
before_title = ascii "</style>\n</head>\n<body>\n<h1>Layout sheet"

-- all that stands before the name of the file
abbrev pub page_start : List ℕ
page_start = opening ++ table_style ++ colour_style ++ before_title

-- what stands after all
abbrev pub page_end : List ℕ
page_end = ascii "</body>\n</html>\n"

-- ---- the table of a struct
-- what stands between its facts and its members
abbrev pub table_start : List ℕ
table_start =
    ascii "</p>\n"
    ++ ascii "<table class=\"members\">\n"
    ++ ascii "<tr><th class=\"n\">offset</th><th class=\"n\">size</th><th class=\"n\">align</th><th>member</th><th>type</th></tr>\n"

-- what stands after the members
abbrev pub table_end : List ℕ
table_end = ascii "</table>\n"

-- the start of the picture of its bytes
abbrev pub picture_start : List ℕ
picture_start =
    ascii "<table class=\"bytes\">\n"
    ++ ascii "<tr><th>byte</th><th>0</th><th>1</th><th>2</th><th>3</th><th>4</th><th>5</th><th>6</th><th>7</th><th>8</th><th>9</th>"
    ++ ascii "<th>10</th><th>11</th><th>12</th><th>13</th><th>14</th><th>15</th></tr>\n"
