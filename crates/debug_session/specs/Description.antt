-- The text that describes the registers, in the form of the GDB manual's appendix on target descriptions.
use Rattle.std.specs.Prelude.{ℕ, List, codes}

unfoldable pub description : List ℕ
description = codes "<?xml version=\"1.0\"?>\n<!DOCTYPE target SYSTEM \"gdb-target.dtd\">\n<target version=\"1.0\">\n<architecture>riscv:rv32</architecture>\n<osabi>none</osabi>\n<feature name=\"org.gnu.gdb.riscv.cpu\">\n<reg name=\"zero\" bitsize=\"32\" regnum=\"0\" type=\"int\"/>\n<reg name=\"ra\" bitsize=\"32\" regnum=\"1\" type=\"code_ptr\"/>\n<reg name=\"sp\" bitsize=\"32\" regnum=\"2\" type=\"data_ptr\"/>\n<reg name=\"gp\" bitsize=\"32\" regnum=\"3\" type=\"int\"/>\n<reg name=\"tp\" bitsize=\"32\" regnum=\"4\" type=\"int\"/>\n<reg name=\"t0\" bitsize=\"32\" regnum=\"5\" type=\"int\"/>\n<reg name=\"t1\" bitsize=\"32\" regnum=\"6\" type=\"int\"/>\n<reg name=\"t2\" bitsize=\"32\" regnum=\"7\" type=\"int\"/>\n<reg name=\"s0\" bitsize=\"32\" regnum=\"8\" type=\"int\"/>\n<reg name=\"s1\" bitsize=\"32\" regnum=\"9\" type=\"int\"/>\n<reg name=\"a0\" bitsize=\"32\" regnum=\"10\" type=\"int\"/>\n<reg name=\"a1\" bitsize=\"32\" regnum=\"11\" type=\"int\"/>\n<reg name=\"a2\" bitsize=\"32\" regnum=\"12\" type=\"int\"/>\n<reg name=\"a3\" bitsize=\"32\" regnum=\"13\" type=\"int\"/>\n<reg name=\"a4\" bitsize=\"32\" regnum=\"14\" type=\"int\"/>\n<reg name=\"a5\" bitsize=\"32\" regnum=\"15\" type=\"int\"/>\n<reg name=\"a6\" bitsize=\"32\" regnum=\"16\" type=\"int\"/>\n<reg name=\"a7\" bitsize=\"32\" regnum=\"17\" type=\"int\"/>\n<reg name=\"s2\" bitsize=\"32\" regnum=\"18\" type=\"int\"/>\n<reg name=\"s3\" bitsize=\"32\" regnum=\"19\" type=\"int\"/>\n<reg name=\"s4\" bitsize=\"32\" regnum=\"20\" type=\"int\"/>\n<reg name=\"s5\" bitsize=\"32\" regnum=\"21\" type=\"int\"/>\n<reg name=\"s6\" bitsize=\"32\" regnum=\"22\" type=\"int\"/>\n<reg name=\"s7\" bitsize=\"32\" regnum=\"23\" type=\"int\"/>\n<reg name=\"s8\" bitsize=\"32\" regnum=\"24\" type=\"int\"/>\n<reg name=\"s9\" bitsize=\"32\" regnum=\"25\" type=\"int\"/>\n<reg name=\"s10\" bitsize=\"32\" regnum=\"26\" type=\"int\"/>\n<reg name=\"s11\" bitsize=\"32\" regnum=\"27\" type=\"int\"/>\n<reg name=\"t3\" bitsize=\"32\" regnum=\"28\" type=\"int\"/>\n<reg name=\"t4\" bitsize=\"32\" regnum=\"29\" type=\"int\"/>\n<reg name=\"t5\" bitsize=\"32\" regnum=\"30\" type=\"int\"/>\n<reg name=\"t6\" bitsize=\"32\" regnum=\"31\" type=\"int\"/>\n<reg name=\"pc\" bitsize=\"32\" regnum=\"32\" type=\"code_ptr\"/>\n</feature>\n<feature name=\"org.gnu.gdb.riscv.csr\">\n<reg name=\"mstatus\" bitsize=\"32\" regnum=\"33\" type=\"int\" group=\"csr\"/>\n<reg name=\"mscratch\" bitsize=\"32\" regnum=\"34\" type=\"int\" group=\"csr\"/>\n<reg name=\"mepc\" bitsize=\"32\" regnum=\"35\" type=\"int\" group=\"csr\"/>\n<reg name=\"ilevel\" bitsize=\"32\" regnum=\"36\" type=\"int\" group=\"csr\"/>\n<reg name=\"plevel\" bitsize=\"32\" regnum=\"37\" type=\"int\" group=\"csr\"/>\n</feature>\n</target>\n"
